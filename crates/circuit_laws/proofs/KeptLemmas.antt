-- The words of kept cells: picked out by a mask, and put back.
use Rattle.std.proofs.Common.{◌≡◌, ℕ, zero, suc, ◌+◌, ◌<◌, ◌&&◌, List, [], ◌∷◌, ◌++◌, Some, Bool, true, false, is_some, drop, replicate, length, slice_get, get_or, refl, sym, ◌∙◌, ap, arith, if◌then◌else◌}
use Rattle.std.proofs.lemmas.Bool.{and_parts}
use Rattle.std.proofs.lemmas.List.{length-append, length-replicate}
use Rattle.std.proofs.lemmas.Option.{slice_get-get_or}
use Rattle.knox_words.specs.Lists.{pick, merge}
use Rattle.knox_words.specs.Bits.{Bits}
use Rattle.circuit_nodes.specs.declared.node.State.{State}
use Rattle.circuit_nodes.specs.Starts.{first_keep, keep_after}
use Rattle.circuit_nodes.proofs.ListLemmas.{slice_get-append}
use Rattle.knox_circuit.specs.declared.port.Cell.{Cell}
use Rattle.knox_circuit.specs.Cells as cells
use Rattle.knox_circuit.specs.Cells.{words_in, keep_mask}
use Rattle.knox_circuit.proofs.CellsLemmas.{words-cons}
use Rattle.circuit_laws.proofs.StatesLemmas.{cell_count, bare_count, LaidOut}
use Rattle.circuit_laws.proofs.WidthsLemmas.{slice_get-behind}
use Rattle.circuit_laws.proofs.PowerLemmas.{SameKept}
use Rattle.circuit_laws.proofs.FitLemmas.{slice_get-same}
use Rattle.circuit_laws.proofs.LinesLemmas.{mask_in}

-- picks and merges, by place

pub pick-same : {A : Type 0} (mask : List Bool) (xs ys : List A) → length xs ≡ length ys → ((p : ℕ) (d : A) → slice_get mask p ≡ Some true → p < length xs → get_or xs p d ≡ get_or ys p d) → pick mask xs ≡ pick mask ys
pick-same [] xs ys e h = refl
pick-same (m ∷ mask) [] [] e h = refl
pick-same (m ∷ mask) [] (y ∷ ys) e h = absurd (omega arith)
pick-same (m ∷ mask) (x ∷ xs) [] e h = absurd (omega arith)
pick-same (true ∷ mask) (x ∷ xs) (y ∷ ys) e h =
    let one : x ≡ y = h 0 x refl (omega arith) in
    let more = pick-same mask xs ys (omega (arith, e)) (λ p d is lt. h (suc p) d is (omega (arith, lt))) in
    (λ i. one i ∷ more i)
pick-same (false ∷ mask) (x ∷ xs) (y ∷ ys) e h = pick-same mask xs ys (omega (arith, e)) (λ p d is lt. h (suc p) d is (omega (arith, lt)))

pub merge-at : {A : Type 0} (mask : List Bool) (base xs : List A) (p : ℕ) (d : A) → length base ≡ length xs → slice_get mask p ≡ Some true → get_or (merge mask base (pick mask xs)) p d ≡ get_or xs p d
merge-at [] base xs p d e is = cc
merge-at (m ∷ mask) [] [] p d e is = refl
merge-at (m ∷ mask) [] (x ∷ xs) p d e is = absurd (omega arith)
merge-at (m ∷ mask) (b ∷ base) [] p d e is = absurd (omega arith)
merge-at (true ∷ mask) (b ∷ base) (x ∷ xs) zero d e is = refl
merge-at (true ∷ mask) (b ∷ base) (x ∷ xs) (suc p) d e is = merge-at mask base xs p d (omega (arith, e)) is
merge-at (false ∷ mask) (b ∷ base) (x ∷ xs) zero d e is = cc
merge-at (false ∷ mask) (b ∷ base) (x ∷ xs) (suc p) d e is = merge-at mask base xs p d (omega (arith, e)) is

pub default-any : {A : Type 0} (xs : List A) (p : ℕ) (d e : A) → p < length xs → get_or xs p d ≡ get_or xs p e
default-any xs p d e lt = let one : Some (get_or xs p d) ≡ Some (get_or xs p e) = sym (slice_get-get_or xs p d lt) ∙ slice_get-get_or xs p e lt in cc

-- words that are the same where a mask marks them are the same where cells are kept

record OneSame (s : State) (keep : List Bool) (c : ℕ) (old other : List Bits) (rest : List Bool) : Type 0 where
  own : (is_some s.next && first_keep keep) ≡ true → (j : ℕ) (d : Bits) → j < s.words → get_or old (s.first + j) d ≡ get_or other (s.first + j) d
  more : (p : ℕ) (d : Bits) → slice_get rest p ≡ Some true → get_or old (c + cell_count s + p) d ≡ get_or other (c + cell_count s + p) d

one-same : (s : State) (keep rest : List Bool) (c b : ℕ) (old other : List Bits) (q : Bool) → is_some s.next ≡ q → s.first ≡ (if q then c else b)
    → ((p : ℕ) (d : Bits) → slice_get ((if q then replicate s.words (first_keep keep) else []) ++ rest) p ≡ Some true → get_or old (c + p) d ≡ get_or other (c + p) d) → OneSame s keep c old other rest
one-same s keep rest c b old other true own first h =
    let long = length-replicate s.words (first_keep keep) in
    let count : cell_count s ≡ s.words = ap (λ (x : Bool). if x then s.words else 0) own in
    record {
      own = λ e j d lt.
          let kept = (and_parts (is_some s.next) (first_keep keep) e).1 in
          let here : slice_get (replicate s.words (first_keep keep) ++ rest) j ≡ Some true = slice_get-append (replicate s.words (first_keep keep)) rest j (omega (arith, long, lt)) ∙ (slice_get-same s.words j (first_keep keep) lt ∙ ap Some kept) in
          ap (λ (m : ℕ). get_or old (m + j) d) first ∙ (h j d here ∙ ap (λ (m : ℕ). get_or other (m + j) d) (sym first));
      more = λ p d is.
          let there : slice_get (replicate s.words (first_keep keep) ++ rest) (length (replicate s.words (first_keep keep)) + p) ≡ Some true = slice_get-behind (replicate s.words (first_keep keep)) rest p ∙ is in
          let at : c + cell_count s + p ≡ c + (length (replicate s.words (first_keep keep)) + p) = omega (arith, count, long) in
          ap (λ (m : ℕ). get_or old m d) at ∙ (h (length (replicate s.words (first_keep keep)) + p) d there ∙ ap (λ (m : ℕ). get_or other m d) (sym at));
    }
one-same s keep rest c b old other false own first h =
    let count : cell_count s ≡ 0 = ap (λ (x : Bool). if x then s.words else 0) own in
    record {
      own = λ e j d lt. let yes = (and_parts (is_some s.next) (first_keep keep) e).0 in let bad : true ≡ false = sym yes ∙ own in cc;
      more = λ p d is.
          let at : c + cell_count s + p ≡ c + p = omega (arith, count) in
          ap (λ (m : ℕ). get_or old m d) at ∙ (h p d is ∙ ap (λ (m : ℕ). get_or other m d) (sym at));
    }

pub same-kept : (ss : List State) (keep : List Bool) (c b : ℕ) (old other : List Bits) → LaidOut c b ss → ((p : ℕ) (d : Bits) → slice_get (mask_in ss keep) p ≡ Some true → get_or old (c + p) d ≡ get_or other (c + p) d) → SameKept ss keep old other
same-kept [] keep c b old other laid h = tt
same-kept (s ∷ ss) keep c b old other laid h =
    let one = one-same s keep (mask_in ss (keep_after s keep)) c b old other (is_some s.next) refl laid.0 h in
    (one.own, same-kept ss (keep_after s keep) (c + cell_count s) (b + bare_count s) old other laid.1 one.more)

-- one truth value for each device word

pub length-mask : (cs : List Cell) (keep : List Bool) → length (keep_mask cs keep) ≡ words_in cs
length-mask [] keep = refl
length-mask (c ∷ cs) keep =
    let sum = length-append (replicate (cells.size c.index) (cells.first_keep keep)) (keep_mask cs (drop 1 keep)) in
    let one = length-replicate (cells.size c.index) (cells.first_keep keep) in
    let more = length-mask cs (drop 1 keep) in
    let all = words-cons c cs in
    omega (arith, sum, one, more, all)
