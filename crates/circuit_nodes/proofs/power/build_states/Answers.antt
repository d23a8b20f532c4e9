use Rattle.std.proofs.Common.{◌≡◌, ◌≤◌, ◌+◌, ℕ, List, [], Bool, min, length, drop, sym, ap, subst, ◌∙◌, arith}
use Rattle.knox_words.specs.Bits.{Bits}
use Rattle.circuit_nodes.specs.Values.{given, IsFilled}
use Rattle.circuit_nodes.specs.Starts.{built, values, words_by, taken_by, fresh_of, keep_after}
use Rattle.circuit_nodes.proofs.ValuesLemmas.{fewer}
use Rattle.circuit_nodes.proofs.StartsLemmas.{filled-front, step-more}
use Rattle.circuit_nodes.proofs.power.build_states.Goals as goal

pub build_state-requires-clause-filled : goal.build_state-requires-clause-filled
build_state-requires-clause-filled c =
    let g = given [] c.loop-k.state in
    let le : c.wanted-upto.result ≤ length c.args.nodes.now = omega (arith, c.wanted-upto.ensures) in
    filled-front g c.args.nodes.now c.fill_up-reached.new.room c.wanted-upto.result le
    (fewer g c.args.nodes.now c.fill_up-reached.new.room c.fill_up-reached.result c.wanted-upto.result c.fill_up-reached.ensures.upto c.fill_up-reached.ensures.filled)

pub loop-k-preserved : goal.loop-k-preserved
loop-k-preserved c =
    let nodes = c.args.nodes.now in
    let states = c.args.states.now in
    let old = c.args.old.now in
    let keep = c.loop-k.kept.now in
    let s = c.state_at-which.result.now in
    let f = c.constant_or-fresh.result in
    let whole = built nodes states c.args.keep.now old c.args.noise.now c.args.state.now in
    let same : (state old noise : List Bits) → words_by (values nodes state) s old noise f ≡ words_by (values nodes state) s old noise (fresh_of s keep) =
    (λ state old noise. c.constant_or-fresh.ensures.words s state old noise ∙ ap (words_by (values nodes state) s old noise) c.fresh_of.ensures) in
    let taken : (n : ℕ) → taken_by n f ≡ taken_by n (fresh_of s keep) = (λ n. c.constant_or-fresh.ensures.taken n ∙ ap (taken_by n) c.fresh_of.ensures) in
    let all = step-more nodes states keep old c.loop-k.rest.now c.loop-k.state c.fill_up-reached.new.room whole c.loop-k.k c.wanted-upto.result c.fill_up-reached.result s f c.build_state.new.state
    c.state_at-which.ensures same taken c.wanted-upto.ensures c.build_state.ensures c.loop-k.invariant.built c.requires.apart (omega (arith, c.requires.within c.loop-k.k s c.state_at-which.ensures)) c.fill_up-reached.ensures.filled in
    let rest : drop (taken_by s.words f) c.loop-k.rest.now ≡ c.rest_after-rest.result.now =
    sym (c.rest_after-rest.ensures ∙ ap (λ (n : ℕ). drop n c.loop-k.rest.now) c.taken_by.ensures) in
    let kept : keep_after s keep ≡ c.keep_after-kept.result.now = sym c.keep_after-kept.ensures in
    let least : min c.fill_up-reached.result s.node ≡ c.min-filled.result = omega arith in
    record {
      built = subst (λ (z : List Bool). built nodes (drop (c.loop-k.k + 1) states) z old c.rest_after-rest.result.now c.build_state.new.state ≡ whole) kept
          (subst (λ (z : List Bits). built nodes (drop (c.loop-k.k + 1) states) (keep_after s keep) old z c.build_state.new.state ≡ whole) rest all.built);
      filled = subst (λ (n : ℕ). IsFilled (given [] c.build_state.new.state) nodes c.fill_up-reached.new.room n) least all.filled;
      within = omega arith;
    }
