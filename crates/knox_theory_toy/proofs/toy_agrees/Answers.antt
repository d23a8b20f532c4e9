use Rattle.knox_theory_toy.proofs.Shut.{toy-agrees, toy-agrees-on-wires}
use Rattle.knox_theory_toy.proofs.toy_agrees.Goals as goal

pub returns-clause-all : goal.returns-clause-all
returns-clause-all c noise f events = toy-agrees noise f events

pub returns-clause-wires : goal.returns-clause-wires
returns-clause-wires c noise f events ok = toy-agrees-on-wires noise f events ok
