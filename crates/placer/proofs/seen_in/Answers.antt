-- The marks of all sections, with the names as the module declares them.
use Rattle.std.proofs.Common.{◌==◌, map, get_or, ap, ◌∙◌}
use Rattle.placer.proofs.Common.{flat_map, list_any, IfOk-weaker, named_of, view_declared, view_module, view_section_parts, Seen, AreSeen, HasMarks, read_names_of, enabled_in, parts_of, read_in, has_enable, is_read}
use Rattle.placer.proofs.PartsRead.{sections_enable, sections_read}
use Rattle.placer.proofs.seen_in.Goals as goal

pub returns-clause-read : goal.returns-clause-read
returns-clause-read c =
    let es = map view_declared c.args.names.now in
    let signals = c.args.signals.now in
    let xs = (view_module c.args.source.now).sections in
    let parts = flat_map parts_of (map view_section_parts c.sections.result.now) in
    IfOk-weaker c.see_sections.result (AreSeen c.in_ok-naming.naming parts) (λ (seen : Seen). HasMarks signals (is_read es xs) seen.read)
    (λ seen are k here.
    are.read signals (read_names_of es) c.requires c.in_ok-naming.ensures.reading k here
    ∙ (ap (λ ys. list_any (λ n. n == get_or signals k 0) (flat_map (read_in (read_names_of es)) (flat_map parts_of ys))) c.sections.ensures
    ∙ sections_read (read_names_of es) (get_or signals k 0) xs)) c.see_sections.ensures

pub returns-clause-enabled : goal.returns-clause-enabled
returns-clause-enabled c =
    let es = map view_declared c.args.names.now in
    let signals = c.args.signals.now in
    let xs = (view_module c.args.source.now).sections in
    let parts = flat_map parts_of (map view_section_parts c.sections.result.now) in
    IfOk-weaker c.see_sections.result (AreSeen c.in_ok-naming.naming parts) (λ (seen : Seen). HasMarks signals (has_enable es xs) seen.enabled)
    (λ seen are k here.
    are.enabled signals (named_of es) c.requires c.in_ok-naming.ensures.targets k here
    ∙ (ap (λ ys. list_any (λ n. n == get_or signals k 0) (flat_map (enabled_in (named_of es)) (flat_map parts_of ys))) c.sections.ensures
    ∙ sections_enable (named_of es) (get_or signals k 0) xs)) c.see_sections.ensures
