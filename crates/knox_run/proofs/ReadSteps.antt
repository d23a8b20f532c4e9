-- Reads one after another.
use Rattle.std.proofs.Common.{◌≡◌, ◌∙◌, ◌<◌, ◌≤◌, ◌+◌, ℕ, List, [], ◌∷◌, ◌++◌, length, get_or, take, ap, sym, subst, append_assoc, Ok}
use Rattle.std.proofs.lemmas.List.{length-map, map_push, take_more, get_or-map}
use Rattle.std.proofs.lemmas.List.Elements.{All-push}
use Rattle.std.specs.declared.vec.Vec.{Vec}
use Rattle.std.specs.declared.alloc.Global.{Global}
use Rattle.knox_run.specs.Words.{Bytes, Reads, limit, bytes_of, Asks, Gives, CountsFault}
use Rattle.knox_run.specs.Reading.{Within, ReadWhole, texts_of}

-- one more read that gave a text
pub ReadWhole-push : (ns : List Bytes) (name : Bytes) (b m a : Reads) (place : ℕ) → ReadWhole ns b m → Asks name (Ok place) m.names a.names → Gives name (Ok place) a.taken m.given a.given → CountsFault (Ok place) m.faults a.faults → ReadWhole (ns ++ name ∷ []) b a
ReadWhole-push ns name b m a place w asks gives count = record {
  entries = w.entries ++ (name, gives.0) ∷ [];
  asked = asks ∙ ap (λ z. z ++ name ∷ []) w.asked ∙ append_assoc b.names ns (name ∷ []);
  given = gives.1 ∙ ap (λ z. z ++ (name, gives.0) ∷ []) w.given ∙ append_assoc b.given w.entries ((name, gives.0) ∷ []);
  named = map_push (λ e. e.0) w.entries (name, gives.0) ∙ ap (λ z. z ++ name ∷ []) w.named;
  within = subst Within (sym (map_push (λ e. e.1) w.entries (name, gives.0)))
      (All-push (λ t. length t ≤ limit) (texts_of w.entries) gives.0 w.within (subst (λ n. n ≤ limit) gives.3 gives.4));
  faults = count ∙ w.faults;
}

-- the same of the next one of a list of names
pub ReadWhole-next : (names : List (Vec ℕ Global)) (i : ℕ) (item : Vec ℕ Global) (name : Bytes) (b m a : Reads) (place : ℕ) → i < length names → item ≡ get_or names i item → name ≡ item.items → ReadWhole (take i (bytes_of names)) b m → Asks name (Ok place) m.names a.names → Gives name (Ok place) a.taken m.given a.given → CountsFault (Ok place) m.faults a.faults → ReadWhole (take (i + 1) (bytes_of names)) b a
ReadWhole-next names i item name b m a place inside is called w asks gives count =
    let more : take (i + 1) (bytes_of names) ≡ take i (bytes_of names) ++ name ∷ [] =
    take_more (bytes_of names) i [] (subst (λ n. i < n) (sym (length-map names (λ v. v.items))) inside)
    ∙ ap (λ z. take i (bytes_of names) ++ z ∷ []) (get_or-map (λ v. v.items) names i item [] inside ∙ ap (λ v. v.items) (sym is) ∙ sym called) in
    subst (λ z. ReadWhole z b a) (sym more) (ReadWhole-push (take i (bytes_of names)) name b m a place w asks gives count)
