-- The segments of Host mode as courses: `factory`, `boot-host`, `rest`, `wait`, and `call` for each operation.
-- The project's own. Nobody has to believe it for a yes. Who is told of choices that falsify a hint must believe it, since it says what was checked there.
-- In a case h is the item's hint, c its condition, x its location, rest the items after it; p is the place of the run.
use Rattle.std.specs.Prelude.{ℕ, ◌&&◌, [], ◌∷◌, ◌++◌, Bool, false}
use Rattle.knox_words.specs.Bits.{Bits}
use Rattle.knox_words.specs.Lists.{Words, same_word, same_words}
use Rattle.knox_theory.specs.Device.{Reply, Replied, OutOfTurns}
use Rattle.knox_theory.specs.Design.{Config, Design, go, go_tests, finish, finish_tests}
use Rattle.knox_theory.specs.Course.{Drove, Course, Check, Assume, Take, Tell, Done, takes}
use Rattle.knox_theory.specs.Script.{CallPlace, CallItems, Run, CallSplit, CallInvariant, CallReplace, CallHavoc, Close, HostSections, Script}
use Rattle.knox_theory.specs.WireSegments.{enters, forks}

-- the reply is this word; one that got stuck is no word
abbrev pub is_reply : Reply → Bits → Bool
is_reply (Replied w) r = same_word w r
is_reply OutOfTurns r = false

-- the reply is the operation's result, and `idle` holds of the fields after it
abbrev pub is_concluded : {P : Type 0} → Design P → HostSections P → ℕ → CallPlace P → Config P → Bool
is_concluded d host o p c =
    let r = d.device.op o p.args p.fields in
    is_reply (d.reply c.left) r.0 && host.idle r.1 c.cells p.kept

-- the driver at another place, with more words taken
abbrev pub moved : {P : Type 0} → CallPlace P → Config P → Words → CallPlace P
moved p c ws = record { fields = p.fields; args = p.args; kept = p.kept; config = c; taken = p.taken ++ ws }

-- The course of a call's items from a place on. At their end the driver goes on to its own.
abbrev pub call_items : {P : Type 0} → Design P → HostSections P → ℕ → CallItems P → CallPlace P → Course
call_items d host o (Run h n rest) p = Tell (Drove (go_tests d n p.config)) (call_items d host o rest (moved p (go d n p.config) []))
call_items d host o (CallSplit h t a b) p = forks (t p) (call_items d host o a p) (call_items d host o b p)
call_items d host o (CallInvariant h c rest) p = Check (c p) h (call_items d host o rest p)
call_items d host o (CallReplace h a b rest) p = Check (same_words (a p) (b p)) h (call_items d host o rest p)
call_items d host o (CallHavoc h x c rest) p =
    Check (c (moved p p.config (x.get p.config ∷ []))) h
    (Take x.width (λ b.
    Assume (c (moved p p.config (b ∷ [])))
    (call_items d host o rest (moved p (x.put p.config b) (b ∷ [])))))
call_items d host o Close p = Tell (Drove (finish_tests d p.config)) (Check (is_concluded d host o p (finish d p.config)) (host.call_hint o) Done)

-- `call` of operation o: from idle inputs and zero locals, after the operation's arguments
abbrev pub call_course : {P : Type 0} → Design P → HostSections P → ℕ → Course
call_course d host o =
    takes d.fields (λ fields. takes d.cells.widths (λ cells. takes (d.device.args o) (λ args. takes d.kept (λ kept.
    enters (host.idle fields (d.cells.fill cells) kept)
    (call_items d host o (host.calls o) (record { fields = fields; args = args; kept = kept; config = d.start o args (d.cells.fill cells); taken = fields ++ (cells ++ (args ++ kept)) }))))))

-- `factory`: the factory state is refined
abbrev pub factory_course : {P : Type 0} → Design P → Script P → HostSections P → Course
factory_course d s host = takes d.device.factory_noise (λ noise. Check (s.refine d.device.initial (d.device.persistent_of (d.device.factory noise)) d.device.first_kept) host.factory_hint Done)

-- `boot-host`: a power-cycle of a refined state is idle
abbrev pub boot_host_course : {P : Type 0} → Design P → Script P → HostSections P → Course
boot_host_course d s host =
    takes d.fields (λ fields. takes d.persistent.widths (λ persistent. takes d.device.noise (λ noise. takes d.kept (λ kept.
    enters (s.refine fields (d.persistent.fill persistent) kept)
    (Check (host.idle fields (d.device.power (d.persistent.fill persistent) noise) kept) host.boot_host_hint Done)))))

-- `rest`: an idle state is refined
abbrev pub rest_course : {P : Type 0} → Design P → Script P → HostSections P → Course
rest_course d s host =
    takes d.fields (λ fields. takes d.cells.widths (λ cells. takes d.kept (λ kept.
    enters (host.idle fields (d.cells.fill cells) kept)
    (Check (s.refine fields (d.device.persistent_of (d.cells.fill cells)) kept) host.rest_hint Done))))

-- `wait`: a tick of an idle state, at idle levels, is idle
abbrev pub wait_course : {P : Type 0} → Design P → HostSections P → Course
wait_course d host =
    takes d.fields (λ fields. takes d.cells.widths (λ cells. takes d.kept (λ kept.
    enters (host.idle fields (d.cells.fill cells) kept)
    (Check (host.idle fields (d.device.tick (d.cells.fill cells) d.device.idle) kept) host.wait_hint Done))))
