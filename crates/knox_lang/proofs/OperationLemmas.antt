-- An operation keeps the widths of the fields, and gives a word of its result's width.
use Rattle.std.proofs.Common.{◌≡◌, ℕ, zero, suc, ◌&&◌, List, [], ◌∷◌, true, refl, sym, subst, Option, Some, None, map, length, slice_get}
use Rattle.std.proofs.lemmas.Nat.{pow_pos}
use Rattle.knox_words.specs.Bits.{Bits}
use Rattle.knox_words.specs.Lists.{fit, fits, are_widths}
use Rattle.knox_words.proofs.Lists.{are_widths-first, are_widths-rest}
use Rattle.knox_lang.specs.declared.expr.Space.TheVariants.{Own, Arg, Local}
use Rattle.knox_lang.specs.declared.expr.Expr.{Expr}
use Rattle.knox_lang.specs.declared.parts.Fun.{Fun}
use Rattle.knox_lang.specs.declared.parts.OpHead.{OpHead}
use Rattle.knox_lang.specs.declared.parts.Body.{Body}
use Rattle.knox_lang.specs.declared.parts.SpecParts.{SpecParts}
use Rattle.knox_lang.specs.declared.scope.Spaces.{Spaces}
use Rattle.knox_lang.specs.Scope.{scope}
use Rattle.knox_lang.specs.Eval.{called}
use Rattle.knox_lang.specs.Operation.{no_queries, start_of, body_spaces, body_after, result_in, after_in, reply_in, arg_widths}
use Rattle.knox_lang.specs.Typing.{Widths, Leave, width_of, stmts_fit, funs_fit, SpacesFit, FunsGive, AnswersFit}
use Rattle.knox_lang.specs.WellFormed.{local_widths, no_leave, result_fits, statements_fit, op_widths, op_fits, ops_fit, fields_fit, word_widths, spec_fits, IsTyped}
use Rattle.knox_lang.proofs.WidthLemmas.{and_first, and_second, is_width-true, word_or-fits, eval-has, funs-give}
use Rattle.knox_lang.proofs.StmtLemmas.{stmts-keep}

abbrev Good : Unit {0} → Type 0
Good a = Unit {0}

pub no-answers : AnswersFit (Unit {0}) no_queries [] Good
no-answers = record { replies = λ a k h args g e f. absurd (none k h e); stays = λ a k h args g e f. tt }
  where
    none : (k : ℕ) (h : OpHead) → slice_get [] k ≡ Some h → ⊥
    none k h e = cc

-- locals start with their widths
pub start-fit : (ls : List (List ℕ × ℕ)) → are_widths (map (λ (l : List ℕ × ℕ). l.1) ls) ≡ true → fit (map (λ (l : List ℕ × ℕ). l.1) ls) (start_of ls) ≡ true
start-fit [] h = refl
start-fit (l ∷ ls) h =
    let r = are_widths-first l.1 (map (λ (l : List ℕ × ℕ). l.1) ls) h in
    rw (word_or-fits l.1 0 r.0 r.1 (pow_pos l.1)) (start-fit ls (are_widths-rest l.1 (map (λ (l : List ℕ × ℕ). l.1) ls) h))

body-spaces-fit : (own : List ℕ) (h : OpHead) (b : Body) (fields args : List Bits) → fit own fields ≡ true → fit (arg_widths h) args ≡ true → are_widths (local_widths b) ≡ true →
    SpacesFit (op_widths own [] h b) (body_spaces b fields args)
body-spaces-fit own h b fields args f a l Own = f
body-spaces-fit own h b fields args f a l Arg = a
body-spaces-fit own h b fields args f a l Local = start-fit b.locals l
body-spaces-fit own h b fields args f a l s = refl

body-keeps : (funs : List Fun) (own : List ℕ) (h : OpHead) (b : Body) (fields args : List Bits) → FunsGive funs (length funs) → statements_fit funs (op_widths own [] h b) no_leave b ≡ true →
    fit own fields ≡ true → fit (arg_widths h) args ≡ true → SpacesFit (op_widths own [] h b) (body_after funs b fields args)
body-keeps funs own h b fields args give ok f a =
    let locals : are_widths (local_widths b) ≡ true = and_first (are_widths (local_widths b)) (stmts_fit funs (op_widths own [] h b) no_leave b.stmts []) ok in
    let stmts : stmts_fit funs (op_widths own [] h b) no_leave b.stmts [] ≡ true = and_second (are_widths (local_widths b)) (stmts_fit funs (op_widths own [] h b) no_leave b.stmts []) ok in
    (stmts-keep (Unit {0}) no_queries funs (op_widths own [] h b) no_leave Good give no-answers b.stmts [] [] (body_spaces b fields args, tt) refl stmts
    (record { spaces = body-spaces-fit own h b fields args f a locals; asked = tt })).spaces

result-fits : (funs : List Fun) (ws : Widths) (w : ℕ) (o : Option Expr) (sp : Spaces) → FunsGive funs (length funs) → result_fits funs ws w o ≡ true → SpacesFit ws sp → fits w (result_in (called funs) o sp) ≡ true
result-fits funs ws w None sp give ok h = cc
result-fits funs ws w (Some e) sp give ok h = eval-has funs (length funs) ws give e [] (scope sp []) h refl w (is_width-true (width_of funs (length funs) ws e []) w ok)

-- the body of an operation
pub record BodyAt (funs : List Fun) (own : List ℕ) (outs : List ℕ) (leave : Leave) (h : OpHead) (bs : List Body) (k : ℕ) : Type 0 where
  pub body : Body
  pub at : slice_get bs k ≡ Some body
  pub obeys : op_fits funs own outs leave h body ≡ true

pub ops_fit-at : (funs : List Fun) (own outs : List ℕ) (leave : Leave) (hs : List OpHead) (bs : List Body) (k : ℕ) (h : OpHead) → ops_fit funs own outs leave hs bs ≡ true → slice_get hs k ≡ Some h →
    BodyAt funs own outs leave h bs k
ops_fit-at funs own outs leave [] bs k h ok is = cc
ops_fit-at funs own outs leave (x ∷ hs) [] k h ok is = cc
ops_fit-at funs own outs leave (x ∷ hs) (b ∷ bs) zero h ok is =
    let e : x ≡ h = cc in
    record { body = b; at = refl; obeys = subst (λ (y : OpHead). op_fits funs own outs leave y b ≡ true) e (and_first (op_fits funs own outs leave x b) (ops_fit funs own outs leave hs bs) ok) }
ops_fit-at funs own outs leave (x ∷ hs) (b ∷ bs) (suc k) h ok is =
    let r = ops_fit-at funs own outs leave hs bs k h (and_second (op_fits funs own outs leave x b) (ops_fit funs own outs leave hs bs) ok) is in
    record { body = r.body; at = r.at; obeys = r.obeys }

pub spec-is-typed : (p : SpecParts) → spec_fits p ≡ true → IsTyped p
spec-is-typed p ok k h fields args is f a =
    let own : List ℕ = word_widths p.init in
    let more = and_second (fields_fit p.fields p.init) (funs_fit p.funs (length p.funs) && ops_fit p.funs own [] no_leave p.ops p.bodies) ok in
    let give : FunsGive p.funs (length p.funs) = funs-give p.funs (length p.funs) (and_first (funs_fit p.funs (length p.funs)) (ops_fit p.funs own [] no_leave p.ops p.bodies) more) in
    let r = ops_fit-at p.funs own [] no_leave p.ops p.bodies k h (and_second (funs_fit p.funs (length p.funs)) (ops_fit p.funs own [] no_leave p.ops p.bodies) more) is in
    let ws : Widths = op_widths own [] h r.body in
    let rest = and_second (are_widths (arg_widths h)) (statements_fit p.funs ws no_leave r.body && result_fits p.funs ws h.result r.body.result) r.obeys in
    let after : SpacesFit ws (body_after p.funs r.body fields args) =
    body-keeps p.funs own h r.body fields args give (and_first (statements_fit p.funs ws no_leave r.body) (result_fits p.funs ws h.result r.body.result) rest) f a in
    record {
      kept = subst (λ (b : Option Body). fit own (after_in p.funs b fields args) ≡ true) (sym r.at) (after Own);
      given = subst (λ (b : Option Body). fits h.result (reply_in p.funs b fields args) ≡ true) (sym r.at)
          (result-fits p.funs ws h.result r.body.result (body_after p.funs r.body fields args) give (and_second (statements_fit p.funs ws no_leave r.body) (result_fits p.funs ws h.result r.body.result) rest) after);
    }
