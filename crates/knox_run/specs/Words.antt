-- The words of clauses and proofs, from one place: those of the crates below, and the types of this crate with their variants.
-- A variant whose name another variant has too, as `Memory`, stands here once, for an outcome; of other types it is named by their path.
pub use Rattle.std.specs.Io.KnownBytes.{Appends}
pub use Rattle.knox_words.specs.Bits.{Bits}
pub use Rattle.knox_text.specs.declared.place.Place.{Place}
pub use Rattle.knox_theory.specs.Agreement.{Agree}
pub use Rattle.knox_circuit.specs.Why.{Why}
pub use Rattle.expr_read.specs.declared.faults.LangWhy.{LangWhy}
pub use Rattle.script_read.specs.declared.fault.ScriptWhy.{ScriptWhy}
pub use Rattle.script_core.specs.declared.parts.{HintNo.HintNo, Choices.Choices}
pub use Rattle.knox_cnf.specs.{Formulas.clauses_true, declared.formula.Cnf.Cnf}
pub use Rattle.lrat_check.specs.{declared.lemma.Lemma.Lemma, Derivations.Proof, Derivations.proof, Derivations.lemma, Derivations.start_of, Derivations.with_lemma, Derivations.is_closed, Soundness.LemmasFollow, Soundness.IsUnsatisfiable}
pub use Rattle.rat_check.specs.{declared.rat_step.RatStep.RatStep, Refutations.answer, Refutations.live_without}
pub use Rattle.proof_text.specs.{Dimacs.cnf_of, Lrat.lrat_of, Unread.lines_left, declared.fault.ProofFault.ProofFault}
pub use Rattle.proof_text.specs.declared.proof_line.ProofLine.{ProofLine, TheVariants.Add, TheVariants.Delete}
pub use Rattle.proof_text.specs.Printing.{line_shown}
pub use Rattle.sat_core.specs.Answers.{Answers}
pub use Rattle.knox_edge.specs.Texts.{Bytes, Named, Reads, bytes_of, limit}
pub use Rattle.knox_edge.specs.{Counts.Rose, Sink.Sunk, declared.shelf.ShelfEnd.ShelfEnd}
pub use Rattle.knox_edge.specs.Shelf.{Asks, Gives, CountsFault, TookTooMuch}
pub use Rattle.knox_verify.specs.{Judgements.Parts, Judgements.device, Judgements.AllHold, Verdicts.Decides, Faults.FirstFault, Faults.OrMemory}
pub use Rattle.knox_verify.specs.Meanings.{FiveTexts, Means, five}
pub use Rattle.knox_verify.specs.declared.verdict.{Letter.Letter, TextWhy.TextWhy, Verdict.Verdict, VerifyFault.VerifyFault}
pub use Rattle.knox_verify.specs.declared.verdict.Letter.TheVariants.{C, S, D, E, H, T, F, P}
pub use Rattle.knox_verify.specs.declared.verdict.TextWhy.TheVariants.{TooLong, Circuit, Lang, Script}
pub use Rattle.knox_verify.specs.declared.verdict.Verdict.TheVariants.{Yes, Undecided, TooWide}
pub use Rattle.knox_run.specs.declared.command.Command.{Command}
pub use Rattle.knox_run.specs.declared.command.Command.TheVariants.{Verify, Replay, Prove, Sat, Check, Selftest}
pub use Rattle.knox_run.specs.declared.status.Status.{Status, TheVariants.WriteFault}
pub use Rattle.knox_run.specs.declared.checking.CheckEnd.{CheckEnd}
pub use Rattle.knox_run.specs.declared.checking.CheckEnd.TheVariants.{Verified, Rejected, NoEmptyClause}
pub use Rattle.knox_run.specs.declared.outcome.Outcome.{Outcome}
pub use Rattle.knox_run.specs.declared.outcome.Outcome.TheVariants.{NoCommand, Unbuilt, Unread, Text, Judged, Checked, Solved, Memory}
pub use Rattle.knox_run.specs.declared.outcome.TextFault.{TextFault}
pub use Rattle.knox_run.specs.declared.outcome.TextFault.TheVariants.{OfDevice, OfProof}
