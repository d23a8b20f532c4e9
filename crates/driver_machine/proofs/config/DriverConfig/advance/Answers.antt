use Rattle.std.proofs.Common.{◌≡◌, ◌∙◌, Some, arith, refl, sym, subst}
use Rattle.std.specs.Option.{option_copied}
use Rattle.std.proofs.lemmas.Grind.{common_steps}
use Rattle.driver_machine.specs.declared.scene.Scene.{Scene}
use Rattle.driver_machine.specs.declared.part.Part.TheVariants as part
use Rattle.driver_machine.specs.declared.reply.Reply.TheVariants as reply
use Rattle.driver_machine.specs.declared.reply.Moved.TheVariants as moved
use Rattle.driver_machine.specs.declared.config.DriverConfig.{DriverConfig}
use Rattle.driver_machine.specs.Sight.{setting, result_value}
use Rattle.driver_machine.specs.Drive.{stmts_of, result_of}
use Rattle.driver_machine.specs.Begins.{run_in}
use Rattle.driver_machine.specs.Configs.{body_of}
use Rattle.driver_machine.proofs.Steps.{Steps, moves-as, ran-steps, stuck-steps, result-steps}
use Rattle.driver_machine.proofs.config.DriverConfig.advance.Goals as goal

ran : (c : goal.After-drop-self) →
    Steps c.args.c.now.lines c.args.d.now c.args.self.now (record { op = c.args.self.now.op; position = c.do_part.new.pos; scene = c.do_part.new.scene; reply = c.args.self.now.reply }) moved.Ran
ran c =
    let d = c.args.d.now in
    let m = c.args.self.now in
    let m' : DriverConfig = record { op = m.op; position = c.do_part.new.pos; scene = c.do_part.new.scene; reply = m.reply } in
    let funs : c.as_slice-funs.result.now ≡ d.funs = grind (arith, common_steps) in
    let body : c.body_stmts.result.now ≡ stmts_of (body_of d m) = grind (arith, common_steps) in
    let at : c.in_ok-position.position ≡ m.position = grind (arith, common_steps) in
    let moves = moves-as c.args.c.now.lines m.scene.args (run_in m.scene) m'.position (run_in m'.scene) c.as_slice-funs.result.now d.funs c.body_stmts.result.now (stmts_of (body_of d m))
    c.in_ok-position.position m.position c.in_ok-part.part part.Ran funs body at c.in-Ran.is c.in_ok-part.ensures.done in
    ran-steps c.args.c.now.lines d m m' c.requires.open_ c.requires.open_ refl c.in_ok-part.ensures.args moves

pub returns-in-Ran-clause-config : goal.returns-in-Ran-clause-config
returns-in-Ran-clause-config c = (ran c).0

pub returns-in-Ran-clause-moved : goal.returns-in-Ran-clause-moved
returns-in-Ran-clause-moved c = (ran c).1

stuck : (c : goal.After-drop-position-in-NoTurns-1) →
    Steps c.args.c.now.lines c.args.d.now c.args.self.now (record { op = c.args.self.now.op; position = c.args.self.now.position; scene = c.do_part.new.scene; reply = Some reply.Stuck }) (moved.Done reply.Stuck)
stuck c =
    let d = c.args.d.now in
    let m = c.args.self.now in
    let m' : DriverConfig = record { op = m.op; position = m.position; scene = c.do_part.new.scene; reply = Some reply.Stuck } in
    let funs : c.as_slice-funs.result.now ≡ d.funs = grind (arith, common_steps) in
    let body : c.body_stmts.result.now ≡ stmts_of (body_of d m) = grind (arith, common_steps) in
    let at : c.in_ok-position.position ≡ m.position = grind (arith, common_steps) in
    let moves = moves-as c.args.c.now.lines m.scene.args (run_in m.scene) c.do_part.new.pos (run_in m'.scene) c.as_slice-funs.result.now d.funs c.body_stmts.result.now (stmts_of (body_of d m))
    c.in_ok-position.position m.position c.in_ok-part.part part.NoTurns funs body at c.in-NoTurns.is c.in_ok-part.ensures.done in
    stuck-steps c.args.c.now.lines d m m' c.requires.open_ c.do_part.new.pos refl moves

pub returns-in-NoTurns-clause-config : goal.returns-in-NoTurns-clause-config
returns-in-NoTurns-clause-config c = (stuck c).0

pub returns-in-NoTurns-clause-moved : goal.returns-in-NoTurns-clause-moved
returns-in-NoTurns-clause-moved c = (stuck c).1

ended : (c : goal.After-drop-position-in-AtResult-1) →
    Steps c.args.c.now.lines c.args.d.now c.args.self.now (record { op = c.args.self.now.op; position = c.args.self.now.position; scene = c.result_word.new.scene; reply = Some (reply.Value c.in_ok-word-in-AtResult.word) }) (moved.Done (reply.Value c.in_ok-word-in-AtResult.word))
ended c =
    let d = c.args.d.now in
    let m = c.args.self.now in
    let w = c.in_ok-word-in-AtResult.word in
    let scene_is : c.result_word.new.scene ≡ c.do_part.new.scene = c.in_ok-word-in-AtResult.ensures.same in
    let m' : DriverConfig = record { op = m.op; position = m.position; scene = c.do_part.new.scene; reply = Some (reply.Value w) } in
    let funs : c.as_slice-funs.result.now ≡ d.funs = grind (arith, common_steps) in
    let body : c.body_stmts.result.now ≡ stmts_of (body_of d m) = grind (arith, common_steps) in
    let at : c.in_ok-position.position ≡ m.position = grind (arith, common_steps) in
    let moves = moves-as c.args.c.now.lines m.scene.args (run_in m.scene) c.do_part.new.pos (run_in m'.scene) c.as_slice-funs.result.now d.funs c.body_stmts.result.now (stmts_of (body_of d m))
    c.in_ok-position.position m.position c.in_ok-part.part part.AtResult funs body at c.in-AtResult.is c.in_ok-part.ensures.done in
    let end : option_copied c.at-body.result ≡ body_of d m = grind (arith, common_steps) in
    let is : w ≡ result_value (setting c.args.c.now.lines d.funs m'.scene.args) (run_in m'.scene) (result_of (body_of d m)) =
    c.in_ok-word-in-AtResult.ensures.value ∙ (λ i. result_value (setting c.args.c.now.lines (funs i) m'.scene.args) (run_in m'.scene) (result_of (end i))) in
    subst (λ (s : Scene). Steps c.args.c.now.lines d m (record m' { scene = s }) (moved.Done (reply.Value w))) (sym scene_is)
    (result-steps c.args.c.now.lines d m m' c.requires.open_ c.do_part.new.pos w refl c.in_ok-part.ensures.args is moves)

pub returns-in_ok-word-in-AtResult-clause-config : goal.returns-in_ok-word-in-AtResult-clause-config
returns-in_ok-word-in-AtResult-clause-config c = (ended c).0
