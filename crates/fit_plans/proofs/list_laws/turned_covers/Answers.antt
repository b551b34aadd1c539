use Rattle.fit_plans.proofs.TurnedRows as rows
use Rattle.fit_plans.proofs.list_laws.turned_covers.Goals as goal

pub returns-clause-prime : goal.returns-clause-prime
returns-clause-prime c mask vars needed allowed list low few is = rows.turned_stays_prime mask vars needed allowed list low few is

pub returns-clause-again : goal.returns-clause-again
returns-clause-again c mask other both vars needed allowed list mask_low other_low both_low few is prime =
    rows.turned_again mask other both vars needed allowed list mask_low other_low both_low few is prime
