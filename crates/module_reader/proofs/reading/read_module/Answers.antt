-- The three answers are put together.
use Rattle.std.proofs.Common.{ap, ◌∙◌}
use Rattle.module_reader.proofs.Common.{first_place, place_past}
use Rattle.abel_tree.specs.View.{view_module}
use Rattle.module_reader.proofs.Read.{only_module, rising_tokens, not_scanned, not_parsed}
use Rattle.module_reader.proofs.reading.read_module.Goals as goal

pub returns-in-Err-clause-refused : goal.returns-in-Err-clause-refused
returns-in-Err-clause-refused c =
    let refused = c.in-Err.ensures.refused in
    c.of_expanding.ensures c.args.text.now refused.0 refused.1

pub returns-in-Err-scan-clause-refused : goal.returns-in-Err-scan-clause-refused
returns-in-Err-scan-clause-refused c =
    c.of_scanning.ensures c.args.text.now
    (not_scanned c.args.text.now c.in-Ok.expanded.items c.as_slice.result.now c.in-Err-scan.fault c.in-Ok.ensures.text c.as_slice.ensures.value c.in-Err-scan.ensures.fault)

pub returns-in-Ok-parse-clause-only : goal.returns-in-Ok-parse-clause-only
returns-in-Ok-parse-clause-only c =
    only_module c.args.text.now c.in-Ok.expanded.items c.as_slice.result.now c.in-Ok-scan.tokens.items c.as_slice-3.result.now
    (view_module c.in-Ok-parse.module) c.in-Ok.ensures.text c.as_slice.ensures.value c.in-Ok-scan.ensures.only c.as_slice-3.ensures.value
    c.in-Ok-parse.ensures.only

pub returns-in-Ok-parse-clause-rising : goal.returns-in-Ok-parse-clause-rising
returns-in-Ok-parse-clause-rising c =
    c.in-Ok-parse.ensures.rising
    (rising_tokens c.as_slice.result.now c.in-Ok-scan.tokens.items c.as_slice-3.result.now c.as_slice-3.ensures.value c.in-Ok-scan.ensures.tokens)

pub returns-clause-refused : goal.returns-clause-refused
returns-clause-refused c =
    c.of_parsing.ensures c.args.text.now
    (not_parsed c.args.text.now c.in-Ok.expanded.items c.as_slice.result.now c.in-Ok-scan.tokens.items c.as_slice-3.result.now
    c.place_past-end.result c.in-Err-parse.fault c.in-Ok.ensures.text c.as_slice.ensures.value c.in-Ok-scan.ensures.tokens
    c.as_slice-3.ensures.value (c.place_past-end.ensures.value ∙ ap (place_past first_place) c.as_slice-2.ensures.value) c.in-Err-parse.ensures.refused)
