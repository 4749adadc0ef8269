use Rattle.trace_text.proofs.whole_front.whole_front.Given as goal

abbrev pub decreases-loop-most : goal.decreases-loop-most
decreases-loop-most l = l.most
