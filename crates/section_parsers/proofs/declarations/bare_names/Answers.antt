use Rattle.section_parsers.proofs.declarations.bare_names.Goals as goal
