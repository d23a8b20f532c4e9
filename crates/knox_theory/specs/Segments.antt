-- The list of a script's segments: each with the hint number of its section or cut, its course, the bits of its choices and its hints.
-- The project's own. Nobody has to believe it for a yes. Who is told of choices that falsify a hint must believe it.
use Rattle.std.specs.Prelude.{ℕ, zero, suc, ◌+◌, ◌*◌, max, nat_le, ◌&&◌, Option, Some, None, List, [], ◌∷◌, ◌++◌, Bool, true, if◌then◌else◌}
use Rattle.knox_words.specs.Lists.{total}
use Rattle.knox_theory.specs.Design.{Design}
use Rattle.knox_theory.specs.Course.{Course}
use Rattle.knox_theory.specs.Script.{State, WireItems, Step, Split, Invariant, Replace, Havoc, Label, Cut, Subsume, CallItems, Run, CallSplit, CallInvariant, CallReplace, CallHavoc, Close, HostSections, Script}
use Rattle.knox_theory.specs.WireSegments.{wire_course, cut_course, subsumes}
use Rattle.knox_theory.specs.HostSegments.{call_course, factory_course, boot_host_course, rest_course, wait_course}

-- the bits of the words that the widest path takes: of items, and of the segments
abbrev pub widest : {P : Type 0} → Design P → WireItems → ℕ
widest d (Step h n rest) = n * total d.device.ins + widest d rest
widest d (Split h t a b) = max (widest d a) (widest d b)
widest d (Invariant h c rest) = widest d rest
widest d (Replace h a b rest) = widest d rest
widest d (Havoc h x c rest) = x.width + widest d rest
widest d (Label h pins rest) = widest d rest
widest d (Cut h c rest) = 0
widest d (Subsume h l) = 0

abbrev pub call_widest : {P : Type 0} → CallItems P → ℕ
call_widest (Run h n rest) = call_widest rest
call_widest (CallSplit h t a b) = max (call_widest a) (call_widest b)
call_widest (CallInvariant h c rest) = call_widest rest
call_widest (CallReplace h a b rest) = call_widest rest
call_widest (CallHavoc h x c rest) = x.width + call_widest rest
call_widest Close = 0

abbrev pub factory_bits : {P : Type 0} → Design P → ℕ
factory_bits d = total d.device.factory_noise

abbrev pub boot_host_bits : {P : Type 0} → Design P → ℕ
boot_host_bits d = total d.fields + (total d.persistent.widths + (total d.device.noise + total d.kept))

-- of `rest` and `wait`
abbrev pub idle_bits : {P : Type 0} → Design P → ℕ
idle_bits d = total d.fields + (total d.cells.widths + total d.kept)

abbrev pub call_bits : {P : Type 0} → Design P → ℕ → CallItems P → ℕ
call_bits d o items = total d.fields + (total d.cells.widths + (total (d.device.args o) + (total d.kept + call_widest items)))

abbrev pub wire_bits : {P : Type 0} → Design P → WireItems → ℕ
wire_bits d wire = total d.fields + (total d.persistent.widths + (total d.device.noise + (total d.kept + widest d wire)))

abbrev pub cut_bits : {P : Type 0} → Design P → WireItems → ℕ
cut_bits d rest = total d.fields + (total d.cells.widths + (total d.emu + (total d.copy.widths + widest d rest)))

-- The hints of items. A cut is a hint of the segment that it ends; the items after it are of the next.
abbrev pub item_hints : WireItems → List ℕ
item_hints (Step h n rest) = h ∷ item_hints rest
item_hints (Split h t a b) = h ∷ (item_hints a ++ item_hints b)
item_hints (Invariant h c rest) = h ∷ item_hints rest
item_hints (Replace h a b rest) = h ∷ item_hints rest
item_hints (Havoc h x c rest) = h ∷ item_hints rest
item_hints (Label h pins rest) = h ∷ item_hints rest
item_hints (Cut h c rest) = h ∷ []
item_hints (Subsume h l) = h ∷ []

abbrev pub call_item_hints : {P : Type 0} → CallItems P → List ℕ
call_item_hints (Run h n rest) = h ∷ call_item_hints rest
call_item_hints (CallSplit h t a b) = h ∷ (call_item_hints a ++ call_item_hints b)
call_item_hints (CallInvariant h c rest) = h ∷ call_item_hints rest
call_item_hints (CallReplace h a b rest) = h ∷ call_item_hints rest
call_item_hints (CallHavoc h x c rest) = h ∷ call_item_hints rest
call_item_hints Close = []

-- which section a segment is of, or that a cut starts it
pub data Kind : Type 0 where
  OfFactory : Kind
  OfBootHost : Kind
  OfRest : Kind
  OfWait : Kind
  OfCall : (op : ℕ) → Kind
  OfWire : Kind
  -- with the ticks of the steps before the cut on its path
  OfCut : (ticks : ℕ) → Kind

pub record Segment : Type 0 where
  -- of its section or cut: its number
  pub hint : ℕ
  pub kind : Kind
  pub course : Course
  -- the bits of the words that its widest path takes
  pub choice_bits : ℕ
  -- of its section and its items: those at which its runs can fail, and those of labels, splits and runs
  pub hints : List ℕ

abbrev pub factory_segment : {P : Type 0} → Design P → Script P → HostSections P → Segment
factory_segment d s host = record { hint = host.factory_hint; kind = OfFactory; course = factory_course d s host; choice_bits = factory_bits d; hints = host.factory_hint ∷ [] }

abbrev pub boot_host_segment : {P : Type 0} → Design P → Script P → HostSections P → Segment
boot_host_segment d s host = record { hint = host.boot_host_hint; kind = OfBootHost; course = boot_host_course d s host; choice_bits = boot_host_bits d; hints = host.boot_host_hint ∷ [] }

abbrev pub rest_segment : {P : Type 0} → Design P → Script P → HostSections P → Segment
rest_segment d s host = record { hint = host.rest_hint; kind = OfRest; course = rest_course d s host; choice_bits = idle_bits d; hints = host.rest_hint ∷ [] }

abbrev pub wait_segment : {P : Type 0} → Design P → HostSections P → Segment
wait_segment d host = record { hint = host.wait_hint; kind = OfWait; course = wait_course d host; choice_bits = idle_bits d; hints = host.wait_hint ∷ [] }

abbrev pub call_segment : {P : Type 0} → Design P → HostSections P → ℕ → Segment
call_segment d host o = record {
  hint = host.call_hint o;
  kind = OfCall o;
  course = call_course d host o;
  choice_bits = call_bits d o (host.calls o);
  hints = host.call_hint o ∷ call_item_hints (host.calls o);
}

abbrev pub wire_segment : {P : Type 0} → Design P → Script P → Segment
wire_segment d s = record {
  hint = s.wire_hint;
  kind = OfWire;
  course = wire_course d s (subsumes d s);
  choice_bits = wire_bits d s.wire;
  hints = s.wire_hint ∷ item_hints s.wire;
}

-- of a cut with this hint and condition, before these items
abbrev pub cut_segment : {P : Type 0} → Design P → Script P → (ticks hint : ℕ) → (State → Bool) → WireItems → Segment
cut_segment d s m h c rest = record { hint = h; kind = OfCut m; course = cut_course d s (subsumes d s) c rest; choice_bits = cut_bits d rest; hints = item_hints rest }

-- of the operations below n
abbrev pub call_segments : {P : Type 0} → Design P → HostSections P → (n : ℕ) → List Segment
call_segments d host zero = []
call_segments d host (suc o) = call_segment d host o ∷ call_segments d host o

-- of the cuts among these items, with so many ticks before them on their path
abbrev pub cut_segments : {P : Type 0} → Design P → Script P → (ticks : ℕ) → WireItems → List Segment
cut_segments d s m (Step h n rest) = cut_segments d s (m + n) rest
cut_segments d s m (Split h t a b) = cut_segments d s m a ++ cut_segments d s m b
cut_segments d s m (Invariant h c rest) = cut_segments d s m rest
cut_segments d s m (Replace h a b rest) = cut_segments d s m rest
cut_segments d s m (Havoc h x c rest) = cut_segments d s m rest
cut_segments d s m (Label h pins rest) = cut_segments d s m rest
cut_segments d s m (Cut h c rest) = cut_segment d s m h c rest ∷ cut_segments d s m rest
cut_segments d s m (Subsume h l) = []

abbrev pub insert : Segment → List Segment → List Segment
insert g [] = g ∷ []
insert g (x ∷ xs) = if nat_le g.hint x.hint then g ∷ (x ∷ xs) else x ∷ insert g xs

-- in order of their hint numbers
abbrev pub in_order : List Segment → List Segment
in_order [] = []
in_order (x ∷ xs) = insert x (in_order xs)

-- those of the host's sections, where the script has any
abbrev pub host_segments : {P : Type 0} → Design P → Script P → Option (HostSections P) → List Segment
host_segments d s None = []
host_segments d s (Some host) = factory_segment d s host ∷ boot_host_segment d s host ∷ rest_segment d s host ∷ wait_segment d host ∷ call_segments d host d.device.ops

-- all segments of a script
abbrev pub all_segments : {P : Type 0} → Design P → Script P → List Segment
all_segments d s = wire_segment d s ∷ (cut_segments d s 0 s.wire ++ host_segments d s s.host)

-- the same in the order in which they are checked
abbrev pub segments : {P : Type 0} → Design P → Script P → List Segment
segments d s = in_order (all_segments d s)

-- no segment stands behind one with a larger hint number
abbrev pub comes_first : Segment → List Segment → Bool
comes_first g [] = true
comes_first g (x ∷ xs) = nat_le g.hint x.hint

abbrev pub is_ordered : List Segment → Bool
is_ordered [] = true
is_ordered (x ∷ xs) = comes_first x xs && is_ordered xs
