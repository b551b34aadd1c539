-- One digit less may follow.
use Rattle.text_rewriting.proofs.gathered.Gathered.+add_digits.Given as goal

abbrev pub decreases-add_digits : goal.decreases-add_digits
decreases-add_digits l = l.most
