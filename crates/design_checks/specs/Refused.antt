-- What is refused of a design, kind by kind, each refusal at its place with the number of the name that is reported
-- (this project's rule).
use Rattle.std.specs.Prelude.{Bool, not, ◌&&◌, List, ◌++◌, map, get_or}
use Rattle.design_checks.specs.Prelude.{flat_map, Table, formula_at, Formula, Entry, is_data, Design, no_name, Contribution}
use Rattle.design_checks.specs.declared.rules.Rule.{Rule}
use Rattle.design_checks.specs.declared.rules.Rule.TheVariants as rule
use Rattle.design_checks.specs.SignalsRefused.{is_control_by_any, lacks_control}
use Rattle.abel_meaning.specs.SignalPins.{has_wrong_kind}
use Rattle.design_checks.specs.RefusedUses.{missing_uses, unread_uses}
use Rattle.design_checks.specs.Compared.{says_always}
use Rattle.design_checks.specs.Written.{unwritten}
use Rattle.design_checks.specs.declared.refused.RefusedUse.{RefusedUse}
use Rattle.design_checks.specs.UsesRefused.{told, told_if}

-- ---- one target

-- data go to a signal on a cell that can't be what the signal is
abbrev pub is_wrong_target : Table → Entry → Contribution → Bool
is_wrong_target t x c = is_data c.target.extension && has_wrong_kind t x

-- the signal doesn't have the control
abbrev pub is_lacking : Table → Entry → Contribution → Bool
is_lacking t x c = lacks_control t x c.target.extension

-- an equation says otherwise than the device does
abbrev pub is_other : Table → List Formula → Entry → Contribution → Bool
is_other t fs x c = not (says_always t x c.target.extension c.block c.complement (formula_at fs c.when))

-- a control is assigned by `?=`, whatever its signal is
abbrev pub is_any_control : Entry → Contribution → Bool
is_any_control x c = is_control_by_any c

-- a rule refuses a contribution to a name
abbrev pub refuses : Table → List Formula → Rule → Entry → Contribution → Bool
refuses t fs rule.Kinds = is_wrong_target t
refuses t fs rule.Controls = is_lacking t
refuses t fs rule.Levels = is_other t fs
refuses t fs rule.DontCares = is_any_control

-- what is refused of all contributions to names, each at its target, in order of the source
abbrev pub targets_refused : (Entry → Contribution → Bool) → List Entry → List Contribution → List RefusedUse
targets_refused test xs cs =
    flat_map (λ (c : Contribution). told_if (test (get_or xs c.target.signal no_name) c) (record { place = c.place; name = c.target.signal })) cs

-- ---- kinds

-- signals on cells that can't be what they are
abbrev pub wrong_kinds : Table → List Entry → List Contribution → List RefusedUse
wrong_kinds t xs cs = targets_refused (is_wrong_target t) xs cs

-- targets that are no control of their signal
abbrev pub lacking_controls : Table → List Entry → List Contribution → List RefusedUse
lacking_controls t xs cs = targets_refused (is_lacking t) xs cs

-- those that say otherwise than the device does
abbrev pub other_levels : Table → List Formula → List Entry → List Contribution → List RefusedUse
other_levels t fs xs cs = targets_refused (is_other t fs) xs cs

-- targets of both sorts
abbrev pub target_controls : Table → List Formula → List Entry → List Contribution → List RefusedUse
target_controls t fs xs cs = lacking_controls t xs cs ++ other_levels t fs xs cs

-- these, equations that are compared and not written as a level is, and uses of what the signal doesn't have
abbrev pub no_controls : Design → List Formula → List Contribution → List RefusedUse
no_controls d fs cs = target_controls d.context.device fs d.context.names cs ++ (unwritten d ++ map told (missing_uses d))

-- controls that are assigned by `?=`
abbrev pub any_controls : List Entry → List Contribution → List RefusedUse
any_controls xs cs = targets_refused is_any_control xs cs

-- uses of what no column carries
abbrev pub no_paths : Design → List RefusedUse
no_paths d = map told (unread_uses d)
