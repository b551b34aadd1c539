-- The context of a device and the names of a source.
use Rattle.set_expr.specs.Prelude.{Table, Names, entries_of, Context, context_of}

abbrev pub context_for : Table → Names → Context
context_for t n = context_of t (entries_of n)
