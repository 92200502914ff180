-- By recursion over the number: the figures of the tenth part, then the last figure behind them.
use Rattle.checker.proofs.line.+decimal.Given as goal

abbrev pub decreases-decimal : goal.decreases-decimal
decreases-decimal l =
    l.n
