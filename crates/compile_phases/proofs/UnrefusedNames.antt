-- Names of which nothing is refused have no other fault than lack of memory.
use Rattle.std.proofs.Common.{◌≡◌, ◌⊎◌, inl, inr, [], Some, None, sym, ap, ◌∙◌}
use Rattle.compile_phases.proofs.Common.{Table, first_refusal, ModuleTree, name_order, first_name_refusal, name_refusals}
use Rattle.decls.specs.declared.fault.NameFault.{NameFault}
use Rattle.decls.specs.declared.fault.NameFault.TheVariants as naming

pub memory_alone : (t : Table) (m : ModuleTree) (f : NameFault) → name_refusals t m ≡ [] → (f ≡ naming.OutOfMemory) ⊎ (first_name_refusal t m ≡ Some f)
    → f ≡ naming.OutOfMemory
memory_alone t m f none (inl memory) = memory
memory_alone t m f none (inr refused) = absurd (none_some (sym (ap (first_refusal name_order) none) ∙ refused))
  where
    none_some : None ≡ Some f → ⊥
    none_some e = absurd cc
