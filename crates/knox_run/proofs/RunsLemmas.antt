-- From reads and outcomes to how a run ends.
use Rattle.std.proofs.Common.{◌≡◌, ◌∙◌, ℕ, zero, suc, ◌-◌, List, [], ◌∷◌, ◌++◌, refl, arith, length, take, drop, ap, sym, subst, Some}
use Rattle.std.proofs.Math.Seq.{drop-append_seam, take-length}
use Rattle.std.specs.declared.vec.Vec.{Vec}
use Rattle.std.specs.declared.alloc.Global.{Global}
use Rattle.knox_run.specs.Words.{bytes_of, Bytes, Reads, Sunk, Command, Outcome, Status}
use Rattle.knox_run.specs.Commands.{command_of, most_texts}
use Rattle.knox_run.specs.Outcomes.{status_of, to_out, to_err}
use Rattle.knox_run.specs.Reading.{ReadWhole, OfTexts, texts_of}
use Rattle.knox_run.specs.Runs.{seen, Because, Ends, names_of}
use Rattle.knox_run.specs.Writing.{Delivers}

-- what is said of the texts that the reads gave
pub of-texts : (said : List Bytes → Type 0) (names : List Bytes) (b a : Reads) (first : ℕ) (w : ReadWhole names b a) → first ≡ length b.given → said (texts_of (drop first a.given)) → OfTexts said names b a
of-texts said names b a first w e h =
    let given = ap (drop first) w.given ∙ ap (λ n. drop n (b.given ++ w.entries)) e ∙ drop-append_seam b.given w.entries in
    (w, subst (λ es. said (texts_of es)) given h)

-- the names of a command's texts, by how many they are at most
pub named-as : (ws names : List Bytes) (k : Command) → command_of ws ≡ Some k → names ≡ take (most_texts (Some k)) (drop 1 ws) → names ≡ names_of ws
named-as ws names k is e = e ∙ ap (λ o. take (most_texts o) (drop 1 ws)) (sym is)

-- the command and the names by others that are the same
pub because-named : (ws names : List Bytes) (b a : Reads) (o : Outcome) (k : Command) → command_of ws ≡ Some k → names ≡ names_of ws → Because (Some k) names b a o → Because (command_of ws) (names_of ws) b a o
because-named ws names b a o k is e h = subst (λ c. Because c (names_of ws) b a o) (sym is) (subst (λ ns. Because (Some k) ns b a o) e h)

-- what some words come to, and what becomes of it, is how a run of them ends
pub ends-by : (ws given names : List Bytes) (b a : Reads) (o : Outcome) (result : Status) (x x' y y' : Sunk) → given ≡ ws → names ≡ names_of given → Because (command_of given) (names_of given) b a o →
    Delivers (to_out o) (to_err names o) (status_of o) result x x' y y' → Ends (seen ws b a x x' y y' result)
ends-by ws given names b a o result x x' y y' is called because delivers = (
  o,
  subst (λ v. Because (command_of v) (names_of v) b a o) is because,
  subst (λ v. Delivers (to_out o) (to_err v o) (status_of o) result x x' y y') (called ∙ ap names_of is) delivers,
)

-- an answer by another value of its parts
pub delivers-as : (out_text err_text out err : Bytes) (wanted status result : Status) (x x' y y' : Sunk) → out_text ≡ out → err_text ≡ err → wanted ≡ status → Delivers out_text err_text wanted result x x' y y' → Delivers out err status result x x' y y'
delivers-as out_text err_text out err wanted status result x x' y y' p q r d =
    subst (λ t. Delivers t err status result x x' y y') p (subst (λ t. Delivers out_text t status result x x' y y') q (subst (λ (s : Status). Delivers out_text err_text s result x x' y y') r d))

bytes-take : (m : ℕ) (ws : List (Vec ℕ Global)) → bytes_of (take m ws) ≡ take m (bytes_of ws)
bytes-take zero ws = refl
bytes-take (suc m) [] = refl
bytes-take (suc m) (w ∷ ws) = ap (λ z. w.items ∷ z) (bytes-take m ws)

-- so many words after the first
pub first-names : (ws : List (Vec ℕ Global)) (m : ℕ) → bytes_of (take m (take (length ws - 1) (drop 1 ws))) ≡ take m (drop 1 (bytes_of ws))
first-names [] m = bytes-take m (take (length {A = Vec ℕ Global} [] - 1) [])
first-names (w ∷ ws) m =
    let e : length (w ∷ ws) - 1 ≡ length ws = omega arith in
    ap (λ n. bytes_of (take m (take n ws))) e ∙ ap (λ z. bytes_of (take m z)) (take-length ws) ∙ bytes-take m ws
