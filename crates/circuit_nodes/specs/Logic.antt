-- Nodes, operands and states that give what others give, with fewer nodes.
-- The project's own.
use Rattle.std.specs.Prelude.{◌≡◌, ◌≤◌, List, map, length}
use Rattle.knox_words.specs.Bits.{Bits}
use Rattle.circuit_nodes.specs.declared.node.Arg.{Arg}
use Rattle.circuit_nodes.specs.declared.node.Node.{Node}
use Rattle.circuit_nodes.specs.declared.node.Next.{Next}
use Rattle.circuit_nodes.specs.declared.packing.Logic.{Logic}
use Rattle.circuit_nodes.specs.Values.{values_in, arg_word}
use Rattle.circuit_nodes.specs.Ticks.{words_in, ticked}

-- operands have the words, and states take the words, that others have and take over all nodes
pub record IsLogic (logic : Logic) (ns : List Node) (args : List Arg) (nexts : List Next) : Type 0 where
  pub few : length logic.nodes ≤ length ns
  pub count : length logic.outputs ≡ length args
  pub words : words_in logic.nexts ≡ words_in nexts
  pub outputs : (inputs state : List Bits) → map (arg_word (values_in logic.nodes inputs state)) logic.outputs ≡ map (arg_word (values_in ns inputs state)) args
  pub ticks : (inputs state : List Bits) → ticked (values_in logic.nodes inputs state) logic.nexts ≡ ticked (values_in ns inputs state) nexts
