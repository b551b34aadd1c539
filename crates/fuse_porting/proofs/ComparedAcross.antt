-- What comparing finds after one of the fuse lists was carried over, it finds of the first ones.
use Rattle.std.proofs.Common.{◌≡◌, ◌⊎◌, ℕ, ◌<◌, Bool, true, List, Option, None, Some, IfSome, Result, Ok, Err, IfErr, IfOk, length, ap, sym, ◌∙◌, arith, inl, inr}
use Rattle.device_logic.specs.LoadFaults.{IsLoadFault}
use Rattle.device_logic.specs.declared.fault.SimFault.{SimFault}
use Rattle.fuse_compare.specs.Compared.{CanBeCompared, IsCompareFault, IsPlainState}
use Rattle.fuse_compare.specs.declared.difference.Difference.{Difference}
use Rattle.pld_base.specs.Bits.{bits, is_on}
use Rattle.pld_device.specs.Laws.{IsDevice}
use Rattle.pld_device.specs.Registers.{stores}
use Rattle.pld_device.specs.Table.{Table}
use Rattle.fuse_porting.specs.Across.{CanBeComparedAcross, IsAcrossFault, IsPlainAcross}
use Rattle.fuse_porting.specs.SameArray.{HasSameArray, IsCarriedOver}
use Rattle.fuse_porting.proofs.CarriedLogics.{stores_same}
use Rattle.fuse_porting.proofs.SameFaults.{fault_first, loaded_first, signal_first}

pub some_weaker : {X : Type 0} (P Q : X → Type 0) → ((x : X) → P x → Q x) → (o : Option X) → IfSome o P → IfSome o Q
some_weaker P Q weaker None is = tt
some_weaker P Q weaker (Some x) is = weaker x is

pub err_weaker : {X E : Type 0} (P Q : E → Type 0) → ((e : E) → P e → Q e) → (r : Result X E) → IfErr r P → IfErr r Q
err_weaker P Q weaker (Ok x) is = tt
err_weaker P Q weaker (Err e) is = weaker e is

pub ok_none : {E : Type 0} (r : Result (Option Difference) E) (found : Option Difference) → r ≡ Ok found → r ≡ Ok None → found ≡ None
ok_none r found is none = cc

-- the first list was carried over
module _ (f t : Table) (a other b : List Bool) (fd : IsDevice f) (td : IsDevice t) (same : HasSameArray f t) (over : IsCarriedOver f t a other) where
  pub plain_first : (d : Difference) → IsPlainState t other b d → IsPlainAcross f t a b d
  plain_first d plain = record {
    outside = λ k on. signal_first f t a other fd td same over k (plain.outside k on);
    stored = λ c on. let is = plain.stored c on in (omega (arith, is.0, ap length same.cells), by_side c is.1);
  }
    where
      by_side : (c : ℕ) → (stores t other c ≡ true) ⊎ (stores t b c ≡ true) → (stores f a c ≡ true) ⊎ (stores t b c ≡ true)
      by_side c (inl is) = inl (sym (stores_same f t a other fd td same over c) ∙ is)
      by_side c (inr is) = inr is

  pub refused_first : (fault : SimFault) → IsCompareFault t other b fault → IsAcrossFault f t a b fault
  refused_first fault (inl is) = inl (fault_first f t a other fd td same over fault is)
  refused_first fault (inr is) = inr (loaded_first f t a other fd td same over is.0, is.1)

  pub compared_first : CanBeCompared t other b → CanBeComparedAcross f t a b
  compared_first can = record { first = loaded_first f t a other fd td same over can.first; second = can.second }

-- the second list was
module _ (f t : Table) (a b other : List Bool) (fd : IsDevice f) (td : IsDevice t) (same : HasSameArray t f) (over : IsCarriedOver t f b other) where
  pub plain_second : (d : Difference) → IsPlainState f a other d → IsPlainAcross f t a b d
  plain_second d plain = record {
    outside = plain.outside;
    stored = λ c on. let is = plain.stored c on in (is.0, by_side c is.1);
  }
    where
      by_side : (c : ℕ) → (stores f a c ≡ true) ⊎ (stores f other c ≡ true) → (stores f a c ≡ true) ⊎ (stores t b c ≡ true)
      by_side c (inl is) = inl is
      by_side c (inr is) = inr (sym (stores_same t f b other td fd same over c) ∙ is)

  pub refused_second : (fault : SimFault) → IsCompareFault f a other fault → IsAcrossFault f t a b fault
  refused_second fault (inl is) = inl is
  refused_second fault (inr is) = inr (is.0, fault_first t f b other td fd same over fault is.1)

  pub compared_second : CanBeCompared f a other → CanBeComparedAcross f t a b
  compared_second can = record { first = can.first; second = loaded_first t f b other td fd same over can.second }
