-- None so far.
use Rattle.std.proofs.Common.{◌≡◌, false, take}
use Rattle.decls.proofs.Common.{list_any, Decl, view_decl, says_buffer}
use Rattle.decls.proofs.buffers.some_say_buffer.Given as goal

abbrev pub invariant-loop-decl : goal.invariant-loop-decl
invariant-loop-decl l = list_any (λ (d : Decl). says_buffer (view_decl d)) (take l.decl-index l.decls) ≡ false
