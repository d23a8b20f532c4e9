use Rattle.term_mem.proofs.reading.+among.Given as goal

abbrev pub decreases-among : goal.decreases-among
decreases-among l = l.bits
