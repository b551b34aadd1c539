-- A pass that leaves names out keeps the first refusal.
use Rattle.std.proofs.Common.{◌≡◌, Bool, true, false, not, List, Option, Some, None, refl, sym, ap, ◌∙◌, is_some}
use Rattle.decls.proofs.Common.{Place, Table, first_refusal, NameFault, Pass, NameTable, name_order, is_behind, AreBehind, MayLeave, Way, way, Follows, wants_names, Shows, Progress, nothing, refuse_all}
use Rattle.decls.proofs.FirstStays.{adds_first, first_stays}

-- the table goes on while no name is left out
pub goes_on : (w : Way) (d n : Pass) (s m : Progress) → n ≡ record d { table = n.table } → d.skipped ≡ false → Shows w.table n.table m → Follows w d s → Follows w n m
goes_on w d n s m e h sh f =
    let whole : n.skipped ≡ false = ap (λ (x : Pass). x.skipped) e ∙ h in
    record {
      skips = ap (λ (x : Pass). x.skips) e ∙ f.skips;
      shown = λ k. sh;
      first = λ k. sh.first;
      allowed = λ k. absurd (let bad : true ≡ false = sym k ∙ whole in cc);
      refused = λ k l. absurd (let bad : true ≡ false = sym k ∙ whole in cc);
      found = λ k. ap (λ (x : Pass). x.lost) e ∙ f.found h;
    }

-- what is left out
pub leaves : (w : Way) (d n : Pass) (s m : Progress) (behind : Bool) → n.table ≡ d.table → n.skips ≡ d.skips → n.skipped ≡ true → (n.lost ≡ false → (behind ≡ true) × (d.lost ≡ false)) → w.skips ≡ true
    → (behind ≡ true → d.lost ≡ false → MayLeave d.table.fault s m) → Follows w d s → Follows w n m
leaves w d n s m behind e g k l a may f = record {
  skips = g ∙ f.skips;
  shown = λ h. absurd (let bad : true ≡ false = sym k ∙ h in cc);
  first = λ h. let both = l h in ap (λ (x : NameTable). x.fault) e ∙ adds_first d.table.fault s m (may both.0 both.1).adds (f.first both.1);
  allowed = λ h. a;
  refused = λ h i. let both = l i in ap (λ (x : NameTable). is_some x.fault) e ∙ (may both.0 both.1).refused;
  found = λ h. absurd (let bad : true ≡ false = sym k ∙ h in cc);
}

-- progress with the same refusals, after names that were left out
pub left_waits : (w : Way) (d : Pass) (s m : Progress) → d.skipped ≡ true → m.faults ≡ s.faults → Follows w d s → Follows w d m
left_waits w d s m h e f = record {
  skips = f.skips;
  shown = λ k. absurd (let bad : true ≡ false = sym h ∙ k in cc);
  first = λ k. f.first k ∙ ap (first_refusal name_order) (sym e);
  allowed = f.allowed;
  refused = f.refused;
  found = f.found;
}

-- refusals after the first, in the table
pub shows_behind : (t : Table) (d : NameTable) (s : Progress) (fs : List NameFault) → AreBehind d.fault fs → Shows t d s → Shows t d (refuse_all fs s)
shows_behind t d s fs b sh = record {
  pins = sh.pins;
  ground = sh.ground;
  rows = sh.rows;
  device = sh.device;
  nodes = sh.nodes;
  taken = sh.taken;
  waiting = sh.waiting;
  first = first_stays d.fault s.faults fs sh.first b;
}

pub behind_some : (o : Option NameFault) (p : Place) → is_behind o p ≡ true → is_some o ≡ true
behind_some None p h = absurd cc
behind_some (Some f) p h = refl

-- whether names were left out or not, a use after the first refusal adds nothing
pub passes_by : (w : Way) (d : Pass) (s : Progress) (fs : List NameFault) → AreBehind d.table.fault fs → Follows w d s → Follows w d (refuse_all fs s)
passes_by w d s fs b f = record {
  skips = f.skips;
  shown = λ h. shows_behind w.table d.table s fs b (f.shown h);
  first = λ h. first_stays d.table.fault s.faults fs (f.first h) b;
  allowed = f.allowed;
  refused = f.refused;
  found = f.found;
}

-- nothing is read
pub starts : (t : Table) (skips : Bool) (d : NameTable) → Shows t d nothing → Follows (way t skips) (record { table = d; skips = skips; skipped = false; lost = false }) nothing
starts t skips d sh = record {
  skips = refl;
  shown = λ h. sh;
  first = λ h. sh.first;
  allowed = λ h. absurd cc;
  refused = λ h. absurd cc;
  found = λ h. refl;
}

-- where names are wanted, none is left out
wants : (wait : Bool) (o : Option NameFault) → is_some o ≡ true → not wait ≡ true → wants_names wait o ≡ true → ⊥
wants wait None h k g = absurd cc
wants true (Some f) h k g = absurd cc
wants false (Some f) h k g = absurd cc

pub whole_names : (t : Table) (wait : Bool) (d : Pass) (s : Progress) → Follows (way t (not wait)) d s → d.lost ≡ false → wants_names wait d.table.fault ≡ true → Shows t d.table s
whole_names t wait d s f l g = f.shown (by d.skipped refl)
  where
    by : (b : Bool) → d.skipped ≡ b → d.skipped ≡ false
    by true h = absurd (wants wait d.table.fault (f.refused h l) (f.allowed h) g)
    by false h = h

pub all_names : (t : Table) (d : Pass) (s : Progress) → Follows (way t false) d s → Shows t d.table s
all_names t d s f = f.shown (by d.skipped refl)
  where
    by : (b : Bool) → d.skipped ≡ b → d.skipped ≡ false
    by true h = absurd (let bad : false ≡ true = f.allowed h in cc)
    by false h = h
