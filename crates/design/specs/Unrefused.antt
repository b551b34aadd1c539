-- A design of which nothing is refused, by its targets as the code has them, and what holds of it (this project's rule).
use Rattle.std.specs.Prelude.{◌≡◌, ℕ, List, [], map}
use Rattle.design.specs.Prelude.{Formula, Design, HasNoSignalLoop, HasNoSignalPath, given_formulas, IsTakeable, Contribution, view_contribution}
use Rattle.pld_device.specs.Laws.{IsDevice}
use Rattle.design_checks.specs.Refused.{lacking_controls, wrong_kinds}
use Rattle.design_checks.specs.SignalsRefused.{registered_nodes}
use Rattle.design_checks.specs.RefusedUses.{missing_uses, unread_uses}
use Rattle.design.specs.Accepted.{IsAccepted}

-- nothing is refused of the design, to whose targets this is contributed
pub record IsUnrefused (d : Design) (cs : List Contribution) : Type 0 where
  pub kinds : wrong_kinds d.context.device d.context.names cs ≡ []
  pub nodes : registered_nodes 0 d.context.names ≡ []
  pub controls : lacking_controls d.context.device d.context.names cs ≡ []
  pub missing : missing_uses d ≡ []
  pub unread : unread_uses d ≡ []
  pub no_loop : HasNoSignalLoop d
  pub no_path : (s : ℕ) → HasNoSignalPath d s

-- the device can take the netlist of such a design, if it is accepted
abbrev pub UnrefusedIsTakeable : Type 0
UnrefusedIsTakeable =
    (d : Design) (fs : List Formula) (cs : List Contribution) → IsDevice d.context.device → IsAccepted d
    → map (view_contribution fs) cs ≡ given_formulas d → IsUnrefused d cs → IsTakeable d
