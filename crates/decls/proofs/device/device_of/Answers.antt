-- What the first string says, or that there isn't one.
use Rattle.std.proofs.Common.{sym, ap, ◌∙◌, option_copied}
use Rattle.decls.proofs.Common.{view_module, named_device, unquoted, all_declarations}
use Rattle.decls.proofs.FirstStrings.{known, unknown, unsaid}
use Rattle.decls.proofs.device.device_of.Goals as goal

pub returns-in_default-clause-unnamed : goal.returns-in_default-clause-unnamed
returns-in_default-clause-unnamed c =
    unsaid (all_declarations (view_module c.args.source.now)) (sym (ap option_copied c.in_default.is) ∙ c.device_string.ensures)

pub returns-in-Some-device_with-clause-named : goal.returns-in-Some-device_with-clause-named
returns-in-Some-device_with-clause-named c =
    known (all_declarations (view_module c.args.source.now)) c.in-Some.string.now c.in-Some-device_with.name (sym (ap option_copied c.in-Some.is) ∙ c.device_string.ensures) (sym c.in-Some-device_with.is ∙ (c.device_with.ensures ∙ ap (λ t. named_device (unquoted t)) c.bytes.ensures))

pub returns-in-None-clause-unnamed : goal.returns-in-None-clause-unnamed
returns-in-None-clause-unnamed c =
    unknown (all_declarations (view_module c.args.source.now)) c.in-Some.string.now (sym (ap option_copied c.in-Some.is) ∙ c.device_string.ensures) (sym c.in-None.is ∙ (c.device_with.ensures ∙ ap (λ t. named_device (unquoted t)) c.bytes.ensures))
