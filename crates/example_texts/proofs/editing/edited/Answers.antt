use Rattle.std.proofs.Common.{rules, ◌≡◌, ◌++◌, Some, inl}
use Rattle.std.proofs.lemmas.Bool.Decides.{Decides-eqb}
use Rattle.std.proofs.lemmas.Slice.Eq.{strip_prefix_is}
use Rattle.example_texts.proofs.editing.edited.Goals as goal

pub returns-in-Some : goal.returns-in-Some
returns-in-Some c =
    let left : c.split_at.result.1.now ≡ c.args.old.now ++ c.in-Some.after.now = strip_prefix_is Decides-eqb _ _ (Some c.in-Some.after) c.in-Some.ensures.cases in
    let text : c.args.text.now ≡ c.split_at.result.0.now ++ (c.args.old.now ++ c.in-Some.after.now) = search (rules, left) in
    let out : c.extend_from_slice-in-Some.new.self.items ≡ (c.split_at.result.0.now ++ c.args.new.now) ++ c.in-Some.after.now = search rules in
    inl (c.split_at.result.0.now, c.in-Some.after.now, text, out)
