-- ROM words by place, and what a power-cycle gives them.
use Rattle.std.proofs.Common.{◌≡◌, ℕ, zero, suc, ◌+◌, ◌<◌, ◌≤◌, List, [], ◌∷◌, ◌++◌, Option, Some, None, Bool, true, false, is_some, drop, replicate, length, slice_get, get_or, refl, sym, ◌∙◌, ap, arith, if◌then◌else◌}
use Rattle.std.proofs.lemmas.Bool.{and_parts, and_from}
use Rattle.std.proofs.lemmas.List.{length-replicate}
use Rattle.knox_words.specs.Bits.{Bits, word_or}
use Rattle.knox_words.specs.Lists.{same_word}
use Rattle.knox_words.proofs.Lists.{same_word-true, same_word-refl}
use Rattle.circuit_nodes.specs.declared.node.Node.{Node}
use Rattle.circuit_nodes.specs.declared.node.State.{State}
use Rattle.circuit_nodes.specs.declared.power.Fresh.TheVariants as fresh
use Rattle.circuit_nodes.specs.Values.{words_within}
use Rattle.circuit_nodes.specs.Starts.{values, by_init, words_by, keep_after}
use Rattle.knox_circuit.specs.Rom.{init_known, is_itself, rom_of, roms_among, is_known, agree}
use Rattle.circuit_laws.proofs.FitLemmas.{first_words-at}
use Rattle.circuit_laws.proofs.ByCellLemmas.{by_cell, turn}
use Rattle.circuit_laws.proofs.PowerLemmas.{within-word}
use Rattle.circuit_laws.proofs.RomLemmas.{slice_get-replicate, length-init, init-words}

-- words that agree, by place

pub agree-at : (os : List (Option Bits)) (ws : List Bits) (p : ℕ) (w d : Bits) → agree os ws ≡ true → slice_get os p ≡ Some (Some w) → get_or ws p d ≡ w
agree-at [] ws p w d h is = cc
agree-at (o ∷ os) [] p w d h is = cc
agree-at (o ∷ os) (x ∷ ws) zero w d h is =
    let same : o ≡ Some w = cc in
    let known : is_known (Some w) x ≡ true = ap (λ (z : Option Bits). is_known z x) (sym same) ∙ (and_parts (is_known o x) (agree os ws) h).0 in
    sym (same_word-true w x known)
agree-at (o ∷ os) (x ∷ ws) (suc p) w d h is = agree-at os ws p w d (and_parts (is_known o x) (agree os ws) h).1 is

is-known : (o : Option Bits) (x : Bits) → ((w : Bits) → o ≡ Some w → x ≡ w) → is_known o x ≡ true
is-known None x h = refl
is-known (Some w) x h = ap (same_word w) (h w refl) ∙ same_word-refl w

pub at-agree : (os : List (Option Bits)) (ws : List Bits) → length os ≤ length ws → ((p : ℕ) (w d : Bits) → slice_get os p ≡ Some (Some w) → get_or ws p d ≡ w) → agree os ws ≡ true
at-agree [] ws le h = refl
at-agree (o ∷ os) [] le h = absurd (omega arith)
at-agree (o ∷ os) (x ∷ ws) le h =
    and_from (is_known o x) (agree os ws) (is-known o x (λ w e. h 0 w x (ap Some e))) (at-agree os ws (omega (arith, le)) (λ p w d is. h (suc p) w d is))

-- ROM words by cell

abbrev pub rom_by : ℕ → List Node → State → List Bool → List (Option Bits)
rom_by cells ns s keep = rom_of cells ns s

pub length-rom : (cells : ℕ) (ns : List Node) (s : State) (keep : List Bool) → length (rom_by cells ns s keep) ≡ s.words
length-rom cells ns s keep = of (is_itself s.node s.next) where
  of : (b : Bool) → length (if b then init_known cells ns s.words s.init else replicate s.words None) ≡ s.words
  of true = length-init cells ns s.words s.init
  of false = length-replicate s.words None

pub roms-by_cell : (cells : ℕ) (ns : List Node) (ss : List State) (keep : List Bool) → roms_among cells ns ss ≡ by_cell (rom_by cells ns) ss keep
roms-by_cell cells ns [] keep = refl
roms-by_cell cells ns (s ∷ ss) keep = ap (λ (z : List (Option Bits)). (if is_some s.next then rom_of cells ns s else []) ++ z) (roms-by_cell cells ns ss (keep_after s keep))

pub known-still : (cells : ℕ) (ns : List Node) (s : State) (j : ℕ) (w : Bits) → slice_get (rom_of cells ns s) j ≡ Some (Some w) → (is_itself s.node s.next ≡ true) × (slice_get (init_known cells ns s.words s.init) j ≡ Some (Some w))
known-still cells ns s j w h = of (is_itself s.node s.next) refl h where
  of : (b : Bool) → is_itself s.node s.next ≡ b → slice_get (if b then init_known cells ns s.words s.init else replicate s.words None) j ≡ Some (Some w) → (is_itself s.node s.next ≡ true) × (slice_get (init_known cells ns s.words s.init) j ≡ Some (Some w))
  of true e h = (e, h)
  of false e h = let same = slice_get-replicate s.words j None (Some w) h in let bad : None ≡ Some w = same.0 in cc

-- what a power-cycle gives a ROM word

pub rom-fresh : (cells : ℕ) (ns : List Node) (s : State) (kept : Bool) (old noise state : List Bits) (j : ℕ) (d w : Bits) → j < s.words → slice_get (init_known cells ns s.words s.init) j ≡ Some (Some w) → (kept ≡ true → (d : Bits) → get_or old (s.first + j) d ≡ w) → get_or (words_by (values ns state) s old noise (if kept then fresh.Kept else by_init s.init)) j d ≡ w
rom-fresh cells ns s true old noise state j d w lt known has =
    first_words-at (words_within old s.first s.words s.width) s.words j d lt
    ∙ (within-word old s.first s.words s.width j lt ∙ has refl (word_or s.width 0))
rom-fresh cells ns s false old noise state j d w lt known has = init-words cells ns s state old noise s.init j d w known

-- nothing is kept at the factory

none-after : (s : State) (keep : List Bool) → keep ≡ [] → keep_after s keep ≡ []
none-after s keep e = of (is_some s.next) where
  of : (b : Bool) → (if b then drop 1 keep else keep) ≡ []
  of true = ap (drop 1) e
  of false = e

pub turn-none : (ss : List State) (keep : List Bool) (k : ℕ) → keep ≡ [] → turn ss keep k ≡ []
turn-none [] keep k e = e
turn-none (s ∷ ss) keep zero e = e
turn-none (s ∷ ss) keep (suc k) e = turn-none ss (keep_after s keep) k (none-after s keep e)
