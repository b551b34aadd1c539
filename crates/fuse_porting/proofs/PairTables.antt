-- Devices that are a pair have the same array.
use Rattle.std.proofs.Common.{◌≡◌, ◌⊎◌, Some, refl, ap, sym, subst, inl, inr, unwrap_or}
use Rattle.devices.specs.Devices.{table_of}
use Rattle.devices.specs.Gal16V8Tables.{gal16v8c, gal16v8r4, gal16v8r6, gal16v8r8}
use Rattle.devices.specs.Models.{table_at}
use Rattle.devices.specs.Pal16L8Table.{pal16l8}
use Rattle.devices.specs.Pal16RTables.{pal16r4, pal16r6, pal16r8}
use Rattle.devices.specs.Pal20Tables.{pal20l8, pal20r4, pal20r6, pal20r8}
use Rattle.jedec_file.specs.ControlLines.{lines_end}
use Rattle.pld_base.specs.Models.{plain_model, registered_model}
use Rattle.pld_base.specs.declared.device_name.DeviceName.{DeviceName}
use Rattle.pld_base.specs.declared.device_name.DeviceName.TheVariants as name
use Rattle.pld_base.specs.declared.model.Model.{Model}
use Rattle.pld_device.specs.Table.{Table}
use Rattle.fuse_porting.specs.Pairs.{ArePair, Counterparts, IsPair, Replaced, Replacing, counterpart_of, eight, four, replacing, six}
use Rattle.fuse_porting.specs.SameArray.{HasSameArray}
use Rattle.fuse_porting.specs.declared.pairs.Pair.{Pair}

pub some_same : (x y : DeviceName) → Some x ≡ Some y → x ≡ y
some_same x y is = ap (λ o. unwrap_or o x) is

pub turned_array : (f t : Table) → HasSameArray f t → HasSameArray t f
turned_array f t same = record {
  pins = sym same.pins;
  ground = sym same.ground;
  columns = sym same.columns;
  rows = sym same.rows;
  cells = sym same.cells;
  pairs = sym same.pairs;
  clock = sym same.clock;
  reset = sym same.reset;
  preset = sym same.preset;
  kinds = same.other_kinds;
  other_kinds = same.kinds;
}

array_l8 : HasSameArray pal16l8 gal16v8c
array_l8 = record { pins = refl; ground = refl; columns = refl; rows = refl; cells = refl; pairs = refl; clock = refl; reset = refl; preset = refl; kinds = refl; other_kinds = refl }

array_r4 : HasSameArray pal16r4 gal16v8r4
array_r4 = record { pins = refl; ground = refl; columns = refl; rows = refl; cells = refl; pairs = refl; clock = refl; reset = refl; preset = refl; kinds = refl; other_kinds = refl }

array_r6 : HasSameArray pal16r6 gal16v8r6
array_r6 = record { pins = refl; ground = refl; columns = refl; rows = refl; cells = refl; pairs = refl; clock = refl; reset = refl; preset = refl; kinds = refl; other_kinds = refl }

array_r8 : HasSameArray pal16r8 gal16v8r8
array_r8 = record { pins = refl; ground = refl; columns = refl; rows = refl; cells = refl; pairs = refl; clock = refl; reset = refl; preset = refl; kinds = refl; other_kinds = refl }

names_are_pair : (from to : DeviceName) → counterpart_of from ≡ Some to → IsPair (table_of from) (table_of to)
names_are_pair name.P16L8 to is =
    subst (λ other. IsPair pal16l8 (table_of other)) (some_same name.GAL16V8C to is) (record { array = array_l8; always = inl refl; named = refl })
names_are_pair name.P16R4 to is =
    subst (λ other. IsPair pal16r4 (table_of other)) (some_same name.GAL16V8R4 to is) (record { array = array_r4; always = inl refl; named = refl })
names_are_pair name.P16R6 to is =
    subst (λ other. IsPair pal16r6 (table_of other)) (some_same name.GAL16V8R6 to is) (record { array = array_r6; always = inl refl; named = refl })
names_are_pair name.P16R8 to is =
    subst (λ other. IsPair pal16r8 (table_of other)) (some_same name.GAL16V8R8 to is) (record { array = array_r8; always = inl refl; named = refl })
names_are_pair name.GAL16V8C to is =
    subst (λ other. IsPair gal16v8c (table_of other)) (some_same name.P16L8 to is) (record { array = turned_array pal16l8 gal16v8c array_l8; always = inr refl; named = refl })
names_are_pair name.GAL16V8R4 to is =
    subst (λ other. IsPair gal16v8r4 (table_of other)) (some_same name.P16R4 to is) (record { array = turned_array pal16r4 gal16v8r4 array_r4; always = inr refl; named = refl })
names_are_pair name.GAL16V8R6 to is =
    subst (λ other. IsPair gal16v8r6 (table_of other)) (some_same name.P16R6 to is) (record { array = turned_array pal16r6 gal16v8r6 array_r6; always = inr refl; named = refl })
names_are_pair name.GAL16V8R8 to is =
    subst (λ other. IsPair gal16v8r8 (table_of other)) (some_same name.P16R8 to is) (record { array = turned_array pal16r8 gal16v8r8 array_r8; always = inr refl; named = refl })
names_are_pair from to is = absurd cc

pub names_are_mutual : (from to : DeviceName) → counterpart_of from ≡ Some to → counterpart_of to ≡ Some from
names_are_mutual name.P16L8 to is = subst (λ other. counterpart_of other ≡ Some name.P16L8) (some_same name.GAL16V8C to is) refl
names_are_mutual name.P16R4 to is = subst (λ other. counterpart_of other ≡ Some name.P16R4) (some_same name.GAL16V8R4 to is) refl
names_are_mutual name.P16R6 to is = subst (λ other. counterpart_of other ≡ Some name.P16R6) (some_same name.GAL16V8R6 to is) refl
names_are_mutual name.P16R8 to is = subst (λ other. counterpart_of other ≡ Some name.P16R8) (some_same name.GAL16V8R8 to is) refl
names_are_mutual name.GAL16V8C to is = subst (λ other. counterpart_of other ≡ Some name.GAL16V8C) (some_same name.P16L8 to is) refl
names_are_mutual name.GAL16V8R4 to is = subst (λ other. counterpart_of other ≡ Some name.GAL16V8R4) (some_same name.P16R4 to is) refl
names_are_mutual name.GAL16V8R6 to is = subst (λ other. counterpart_of other ≡ Some name.GAL16V8R6) (some_same name.P16R6 to is) refl
names_are_mutual name.GAL16V8R8 to is = subst (λ other. counterpart_of other ≡ Some name.GAL16V8R8) (some_same name.P16R8 to is) refl
names_are_mutual from to is = absurd cc

-- ---- the chips with modes

pair_at : (t : Table) (model chip : Model) → Some model ≡ Some chip → IsPair t (table_at model) → IsPair t (table_at chip)
pair_at t model chip is pair = subst (λ m. IsPair t (table_at m)) (ap (λ o. unwrap_or o model) is) pair

replaced_are_pair : (pal : DeviceName) (chip : Model) → replacing pal ≡ Some chip → IsPair (table_of pal) (table_at chip)
replaced_are_pair name.P16L8 chip is =
    pair_at pal16l8 (plain_model name.GAL16V8) chip is (record {
      array = record { pins = refl; ground = refl; columns = refl; rows = refl; cells = refl; pairs = refl; clock = refl; reset = refl; preset = refl; kinds = refl; other_kinds = refl };
      always = inl refl;
      named = refl;
    })
replaced_are_pair name.P16R4 chip is =
    pair_at pal16r4 (registered_model name.GAL16V8 four) chip is (record {
      array = record { pins = refl; ground = refl; columns = refl; rows = refl; cells = refl; pairs = refl; clock = refl; reset = refl; preset = refl; kinds = refl; other_kinds = refl };
      always = inl refl;
      named = refl;
    })
replaced_are_pair name.P16R6 chip is =
    pair_at pal16r6 (registered_model name.GAL16V8 six) chip is (record {
      array = record { pins = refl; ground = refl; columns = refl; rows = refl; cells = refl; pairs = refl; clock = refl; reset = refl; preset = refl; kinds = refl; other_kinds = refl };
      always = inl refl;
      named = refl;
    })
replaced_are_pair name.P16R8 chip is =
    pair_at pal16r8 (registered_model name.GAL16V8 eight) chip is (record {
      array = record { pins = refl; ground = refl; columns = refl; rows = refl; cells = refl; pairs = refl; clock = refl; reset = refl; preset = refl; kinds = refl; other_kinds = refl };
      always = inl refl;
      named = refl;
    })
replaced_are_pair name.P20L8 chip is =
    pair_at pal20l8 (plain_model name.GAL20V8) chip is (record {
      array = record { pins = refl; ground = refl; columns = refl; rows = refl; cells = refl; pairs = refl; clock = refl; reset = refl; preset = refl; kinds = refl; other_kinds = refl };
      always = inl refl;
      named = refl;
    })
replaced_are_pair name.P20R4 chip is =
    pair_at pal20r4 (registered_model name.GAL20V8 four) chip is (record {
      array = record { pins = refl; ground = refl; columns = refl; rows = refl; cells = refl; pairs = refl; clock = refl; reset = refl; preset = refl; kinds = refl; other_kinds = refl };
      always = inl refl;
      named = refl;
    })
replaced_are_pair name.P20R6 chip is =
    pair_at pal20r6 (registered_model name.GAL20V8 six) chip is (record {
      array = record { pins = refl; ground = refl; columns = refl; rows = refl; cells = refl; pairs = refl; clock = refl; reset = refl; preset = refl; kinds = refl; other_kinds = refl };
      always = inl refl;
      named = refl;
    })
replaced_are_pair name.P20R8 chip is =
    pair_at pal20r8 (registered_model name.GAL20V8 eight) chip is (record {
      array = record { pins = refl; ground = refl; columns = refl; rows = refl; cells = refl; pairs = refl; clock = refl; reset = refl; preset = refl; kinds = refl; other_kinds = refl };
      always = inl refl;
      named = refl;
    })
replaced_are_pair pal chip is = absurd cc

-- a fuse file names every fuse of such a PAL
each_named : (pal : DeviceName) (chip : Model) → replacing pal ≡ Some chip → lines_end (table_of pal) ≡ (table_of pal).fuses
each_named name.P16L8 chip is = refl
each_named name.P16R4 chip is = refl
each_named name.P16R6 chip is = refl
each_named name.P16R8 chip is = refl
each_named name.P20L8 chip is = refl
each_named name.P20R4 chip is = refl
each_named name.P20R6 chip is = refl
each_named name.P20R8 chip is = refl
each_named pal chip is = absurd cc

turned_pair : (f t : Table) → lines_end f ≡ f.fuses → IsPair f t → IsPair t f
turned_pair f t named pair = record { array = turned_array f t pair.array; always = turned pair.always; named = named }
  where
    turned : {A B : Type 0} → A ⊎ B → B ⊎ A
    turned (inl a) = inr a
    turned (inr b) = inl b

-- ---- whichever of the two is the first

pub each_is_pair : (from to : DeviceName) (pair : Pair) → ArePair from to pair → IsPair (table_at pair.from) (table_at pair.to)
each_is_pair from to pair (Counterparts is first second) = rw (first, second) (names_are_pair from to is)
each_is_pair from to pair (Replaced is named first) = rw first (replaced_are_pair from pair.to is)
each_is_pair from to pair (Replacing is named second) =
    rw second (turned_pair (table_of to) (table_at pair.from) (each_named to pair.from is) (replaced_are_pair to pair.from is))

pub each_is_mutual : (from to : DeviceName) (pair : Pair) → ArePair from to pair → ArePair to from (record { from = pair.to; to = pair.from })
each_is_mutual from to pair (Counterparts is first second) = Counterparts (names_are_mutual from to is) second first
each_is_mutual from to pair (Replaced is named first) = Replacing is named first
each_is_mutual from to pair (Replacing is named second) = Replaced is named second
