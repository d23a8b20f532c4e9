-- Runs of calls by what the driver does as a whole, and not by its moves: these compute.
use Rattle.std.proofs.Common.{◌≡◌, ℕ, zero, suc, ◌<◌, ◌&&◌, List, [], ◌∷◌, Bool, true, refl, sym, ◌∙◌, arith}
use Rattle.knox_words.specs.Lists.{Words, fit}
use Rattle.knox_theory.specs.Device.{Reply}
use Rattle.knox_theory.specs.Design.{Design, finish, finish_tests}
use Rattle.knox_theory.specs.Course.{Drove, Course, Check, Tell, Done, takes}
use Rattle.knox_theory.specs.Script.{HostSections, Script}
use Rattle.knox_theory.specs.WireSegments.{enters}
use Rattle.knox_theory.specs.HostSegments.{is_reply, call_course}
use Rattle.knox_theory.specs.Segments.{Segment, segments, wire_segment, cut_segment, factory_segment, boot_host_segment, rest_segment, wait_segment, call_segment}
use Rattle.knox_theory.proofs.Basics.{and-left, and-right, and-both}
use Rattle.knox_circuit.specs.Line.{Line}
use Rattle.knox_circuit.specs.Cells.{cells_of, state_widths}
use Rattle.knox_circuit.specs.Rom.{rom_words, agree}
use Rattle.device_design.specs.Roms.{known_fit}
use Rattle.device_design.proofs.RomLemmas.{part-fits, fits-widths, fits-agree}
use Rattle.driver_machine.specs.Left.{Left}
use Rattle.driver_machine.specs.Lawful.{HasOp, HasDriver}
use Rattle.driver_machine.proofs.Meaning.{start-means}
use Rattle.driver_machine.proofs.Moving.{finish-means}
use Rattle.device_design.specs.Meaning.{design_of}
use Rattle.script_core.specs.Hints.{script_of}
use Rattle.pin_store.specs.Store.{set_head, check_head, spec, driver_with, emulator}
use Rattle.pin_store.specs.Hinted.{script_with}
use Rattle.pin_store.proofs.Plain.{args_of, plain_design}
use Rattle.pin_store.proofs.Driving.{Waiting, drive-is}
use Rattle.pin_store.proofs.Devices.{design-is}
use Rattle.pin_store.proofs.Hinting.{Valued, said, plain_host, plain_cut, loop, script_by, hints-are}

module _ (d : Design Left) (host : HostSections Left) (o : ℕ) where
  -- the reply is the operation's result, and `idle` holds afterwards: by the reply and the cells at the end
  abbrev concludes : (fields args kept : Words) → Reply × Words → Bool
  concludes fields args kept end = is_reply end.0 (d.device.op o args fields).0 && host.idle (d.device.op o args fields).1 end.1 kept

  abbrev pub whole_call : Course
  whole_call =
      takes d.fields (λ fields. takes d.cells.widths (λ cells. takes (d.device.args o) (λ args. takes d.kept (λ kept.
      enters (host.idle fields (d.cells.fill cells) kept)
      (Tell (Drove (finish_tests d (d.start o args (d.cells.fill cells))))
      (Check (concludes fields args kept (d.device.drive o args (d.cells.fill cells))) (host.call_hint o) Done))))))

module _ (w : ℕ) (ls : List Line) (x : Waiting) where
  abbrev plain : Design Left
  plain = plain_design w ls x.waits x.more

  has-op : (o : ℕ) → o < 2 → HasOp (driver_with x.more w) o (args_of w o)
  has-op zero lt = record { head = set_head w; at = refl; widths = refl }
  has-op (suc zero) lt = record { head = check_head w; at = refl; widths = refl }
  has-op (suc (suc o)) lt = absurd (omega arith)

  -- what is known of the device words has their widths
  abbrev pub IsKnown : Type 0
  IsKnown = known_fit (rom_words ls) (state_widths (cells_of ls)) ≡ true

  has-driver : IsKnown → HasDriver ls (driver_with x.more w) plain
  has-driver known = record {
    ops = has-op;
    cells = λ ws f.
        and-both (fit (state_widths (cells_of ls)) ws) (agree (rom_words ls) ws) (fits-widths (rom_words ls) (state_widths (cells_of ls)) ws known f)
        (fits-agree (rom_words ls) (state_widths (cells_of ls)) ws f);
    of_cells = λ ws f.
        part-fits (rom_words ls) (state_widths (cells_of ls)) ws known (and-left (fit (state_widths (cells_of ls)) ws) (agree (rom_words ls) ws) f)
        (and-right (fit (state_widths (cells_of ls)) ws) (agree (rom_words ls) ws) f);
    drive = λ o args cells. sym (drive-is w ls x o args cells);
    start = λ o args cells. refl;
    move = λ c. refl;
    move_tests = λ c. refl;
    ended = λ c. refl;
    ticks_left = λ c. refl;
    reply = λ left. refl;
    fits_config = λ o c. refl;
  }

  -- the moves come to what the driver does as a whole
  pub moves-drive : IsKnown → (o : ℕ) (args cells : Words) → plain.device.drive o args cells ≡ (plain.reply (finish plain (plain.start o args cells)).left, (finish plain (plain.start o args cells)).cells)
  moves-drive known o args cells =
      (has-driver known).drive o args cells
      ∙ (sym (start-means ls (driver_with x.more w) o args cells) ∙ sym (finish-means ls (driver_with x.more w) plain (has-driver known) (plain.start o args cells)))

  module _ (h : Valued) where
    abbrev host : HostSections Left
    host = plain_host h.idle.value

    abbrev script : Script Left
    script = script_by ls h

    call-is : IsKnown → (o : ℕ) → call_course plain host o ≡ whole_call plain host o
    call-is known o i =
        takes plain.fields (λ fields. takes plain.cells.widths (λ cells. takes (plain.device.args o) (λ args. takes plain.kept (λ kept.
        enters (host.idle fields (plain.cells.fill cells) kept)
        (Tell (Drove (finish_tests plain (plain.start o args (plain.cells.fill cells))))
        (Check (concludes plain host o fields args kept (sym (moves-drive known o args (plain.cells.fill cells)) i)) (host.call_hint o) Done))))))

    -- the segments in order of their hint numbers, by the courses of the calls
    abbrev listed : (calls : ℕ → Course) → List Segment
    listed calls =
        wire_segment plain script
        ∷ cut_segment plain script 0 2 (plain_cut h.cut.value) loop
        ∷ factory_segment plain script host
        ∷ boot_host_segment plain script host
        ∷ rest_segment plain script host
        ∷ wait_segment plain host
        ∷ record (call_segment plain host 0) { course = calls 0 }
        ∷ record (call_segment plain host 1) { course = calls 1 }
        ∷ []

    abbrev pub plain_parts : List Segment
    plain_parts = listed (whole_call plain host)

    pub parts-are : IsKnown → segments (design_of (record { lines = ls }) (spec w) (driver_with x.more w) (emulator w)) (script_of (record { lines = ls }) (spec w) (driver_with x.more w) (script_with (said h))) ≡ plain_parts
    parts-are known = (λ i. segments (design-is w ls x i) (hints-are w ls x.more h i)) ∙ (λ i. listed (λ o. call-is known o i))
