-- A refusal of a name, by something else that it is refused for.
use Rattle.compile_phases.proofs.Common.{CompileFault, Source, Place, Fit, OutOfMemory, Expand, Scan, Parse, Names, Sections, Design, Width, IsNameFault, IsOfSource}
use Rattle.decls.specs.declared.fault.NameFault.{NameFault}

pub weaker : (P Q : NameFault → Type 0) → ((f : NameFault) → P f → Q f) → (e : CompileFault) → IsOfSource (IsNameFault P) e → IsOfSource (IsNameFault Q) e
weaker P Q to (Source (Names f) line) h = (to f h.0, h.1)
weaker P Q to (Source (Expand f) line) h = h
weaker P Q to (Source (Scan f) line) h = h
weaker P Q to (Source (Parse f) line) h = h
weaker P Q to (Source (Sections f) line) h = h
weaker P Q to (Source (Design f) line) h = h
weaker P Q to (Source (Width f) line) h = h
weaker P Q to (Place f line) h = h
weaker P Q to (Fit f line) h = h
weaker P Q to OutOfMemory h = h
