-- The scripts of the toy device are closed, by trying all choices: at most 2,048 numbers a segment.
use Rattle.std.proofs.Common.{◌≡◌, Some, true, refl, subst}
use Rattle.knox_theory.specs.Agreement.{Agree, AgreeOnWires}
use Rattle.knox_theory.specs.Script.{HasCallLocations, HostSections, IsScript}
use Rattle.knox_theory.specs.Segments.{segments}
use Rattle.knox_theory.specs.Closed.{Closed, StartsRefined}
use Rattle.knox_theory.specs.Numbered.{all_tried}
use Rattle.knox_theory.proofs.Listed.{closed-host, closed-wires}
use Rattle.knox_theory.proofs.Widths.{tried-closed}
use Rattle.knox_theory.proofs.Agreeing.{agree, agree-on-wires}
use Rattle.knox_theory_toy.specs.Toy.{Left, toy}
use Rattle.knox_theory_toy.specs.Scripts.{host, script, wire_script}
use Rattle.knox_theory_toy.proofs.Lawful.{junk_cell-lawful, lawful, on_wires, shown_word-lawful}

pub tried : all_tried (segments toy script) ≡ true
tried = refl

pub closed : Closed toy script
closed = tried-closed toy script tried

has-host : (h : HostSections Left) → script.host ≡ Some h → host ≡ h
has-host h e = cc

pub whole : IsScript toy script
whole = record {
  paced = refl;
  locs = (tt, (shown_word-lawful 1, tt));
  call_locs = λ h is o lt. subst (λ z. HasCallLocations toy o (z.calls o)) (has-host h is) (junk_cell-lawful 1 o, tt);
}

pub toy-agrees : Agree toy.device
toy-agrees = agree toy script host refl (lawful 1) whole (closed-wires toy script closed) (closed-host toy script host refl closed)

-- the script for wires alone
wires-tried : all_tried (segments toy wire_script) ≡ true
wires-tried = refl

wires-whole : IsScript toy wire_script
wires-whole = record { paced = refl; locs = (tt, (shown_word-lawful 1, tt)); call_locs = λ h is o lt. cc }

starts : StartsRefined toy wire_script
starts noise f = refl

pub toy-agrees-on-wires : AgreeOnWires toy.device
toy-agrees-on-wires = agree-on-wires toy wire_script (on_wires 1) wires-whole (closed-wires toy wire_script (tried-closed toy wire_script wires-tried)) starts
