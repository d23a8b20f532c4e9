use Rattle.std.proofs.Common.{◌≡◌, ◌≤◌, Some, true, false, refl, subst, sym, ◌∙◌, arith}
use Rattle.knox_words.specs.Bits.{IsWord, bits}
use Rattle.knox_theory.specs.Searched.{wants}
use Rattle.device_design.specs.Meaning.{design_of}
use Rattle.script_core.specs.Hints.{script_of}
use Rattle.script_core.proofs.Deciding.{course_in, wanted, wanted-fits, failed, over, no-word, left-less, taken-whole, all-tried}
use Rattle.script_core.proofs.decide.+search.Goals as goal

not-some : false ≡ true → ⊥
not-some e = cc

pub search-try_words-requires : goal.search-try_words-requires
search-try_words-requires t c =
    let v = c.args.dev.now in
    let p = c.args.sc.now in
    let want : wants (course_in v p c.args.g.0) c.args.front.now ≡ Some c.in-Wants.width =
    wanted (course_in v p c.args.g.0) c.in_ok-hint.field-0 c.as_slice.result.now c.args.front.now c.in-Wants.width c.in-Wants.is c.in_ok-hint.ensures.run c.as_slice.ensures in
    let fits : c.in-Wants.width ≤ c.args.left =
    wanted-fits (design_of v.circuit v.spec v.driver v.emulator) (script_of v.circuit v.spec v.driver p) c.args.g.0 c.args.front.now c.in-Wants.width c.args.left c.requires.left want in
    (omega (arith, c.decreases), (c.requires.of, (c.run_over.ensures.room ∙ c.requires.room, (c.requires.left, (c.requires.few, (fits, want))))))

pub search-returns-in-Failed-clause-found : goal.search-returns-in-Failed-clause-found
search-returns-in-Failed-clause-found t c = record {
  fails = failed (course_in c.args.dev.now c.args.sc.now c.args.g.0) c.in_ok-hint.field-0 c.as_slice.result.now c.args.front.now c.in-Failed.hint c.in-Failed.is c.in_ok-hint.ensures.run c.as_slice.ensures;
  taken = c.requires.taken;
}

pub search-returns-in-Held : goal.search-returns-in-Held
search-returns-in-Held t c = record {
  found = (over (course_in c.args.dev.now c.args.sc.now c.args.g.0) c.in_ok-hint.field-0 c.as_slice.result.now c.args.front.now c.in-Held.is c.in_ok-hint.ensures.run c.as_slice.ensures, refl);
  room = c.run_over.ensures.room;
}

pub try_word-returns-in_default-clause-found : goal.try_word-returns-in_default-clause-found
try_word-returns-in_default-clause-found t c =
    let given : c.from.result ≡ c.args.value = c.from.ensures in
    let never : IsWord (bits c.args.width c.args.value) → ⊥ = λ w. not-some (c.in_default.ensures.word.1 (subst (λ k. IsWord (bits c.args.width k)) (sym given) w)) in
    (no-word (course_in c.args.dev.now c.args.sc.now c.args.g.0) c.args.front.now c.args.width c.args.value c.requires.wanted never, refl)

pub try_word-search-requires : goal.try_word-search-requires
try_word-search-requires t c =
    let word : IsWord (bits c.args.width c.from.result) = c.in-Some.ensures.word.0 refl in
    let wide : 1 ≤ c.args.width = word.wide in
    let same : c.from-2.result ≡ c.args.width = c.from-2.ensures in
    let less = left-less c.args.front.now c.push.new.self c.in-Some.word c.args.width c.from.result c.from-2.result c.args.left _ c.requires.left c.requires.within same c.in-Some.ensures.some c.in_ok-push.ensures.ok in
    let taken = taken-whole (course_in c.args.dev.now c.args.sc.now c.args.g.0) c.args.front.now c.push.new.self c.in-Some.word c.args.width c.from.result c.requires.wanted word c.in-Some.ensures.some c.in_ok-push.ensures.ok in
    (omega (arith, c.decreases, wide, same, c.requires.within), (c.requires.of, (c.requires.room, (less, (omega (arith, c.requires.few), taken)))))

pub try_words-returns-clause-found : goal.try_words-returns-clause-found
try_words-returns-clause-found t c =
    let whole : c.number_of-value-end.result ≤ c.loop-value.value = c.loop-value-test.false in (
      all-tried (course_in c.args.dev.now c.args.sc.now c.args.g.0) c.args.front.now c.args.width c.number_of-value-end.result c.requires.wanted c.number_of-value-end.ensures
          (λ v lt. c.loop-value.invariant.2 v (omega arith)),
      c.loop-value.invariant.0,
    )
