-- The cells of the PAL16L8.
use Rattle.std.proofs.Common.{◌≡◌, ℕ, zero, suc, ◌+◌, ◌-◌, ◌*◌, ◌<◌, Bool, List, [], refl, ap, sym, subst, arith}
use Rattle.pld_device.specs.declared.cell.Cell.{Cell}
use Rattle.pld_device.specs.Table.{cell_at}
use Rattle.devices.specs.Pal16L8Table.{combinational_cell, pal16l8}

-- each cell's pin and rows
pub cell_is : (c : ℕ) → c < 8 → cell_at pal16l8 c ≡ combinational_cell (19 - c) (8 * c)
cell_is zero within = refl
cell_is (suc zero) within = refl
cell_is (suc (suc zero)) within = refl
cell_is (suc (suc (suc zero))) within = refl
cell_is (suc (suc (suc (suc zero)))) within = refl
cell_is (suc (suc (suc (suc (suc zero))))) within = refl
cell_is (suc (suc (suc (suc (suc (suc zero)))))) within = refl
cell_is (suc (suc (suc (suc (suc (suc (suc zero))))))) within = refl
cell_is (suc (suc (suc (suc (suc (suc (suc (suc c)))))))) within = absurd (omega arith)

-- its pin
pub pin_of : (c : ℕ) → c < 8 → (cell_at pal16l8 c).pin ≡ 19 - c
pin_of c within = ap (λ (cell : Cell). cell.pin) (cell_is c within)
