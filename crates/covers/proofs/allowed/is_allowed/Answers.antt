use Rattle.std.proofs.Common.{refl, slice_range, sym, ◌∙◌}
use Rattle.covers.proofs.Common.{off_list}
use Rattle.covers.proofs.OffLaws.{off_all, off_point}
use Rattle.covers.proofs.allowed.is_allowed.Goals as goal

pub returns-then-has_point_of-clause-answer : goal.returns-then-has_point_of-clause-answer
returns-then-has_point_of-clause-answer c = (
  λ never. absurd cc,
  λ all. absurd (off_point (slice_range c.args.pool.now.cubes c.args.allowed.now.range.from c.args.allowed.now.range.to) (off_list c.args.allowed.now.off) c.args.cube c.args.vars
      c.requires.vars c.requires.off.apart c.requires.off.below (sym c.has_point_of.ensures ∙ c.if-has_point_of.true) all),
)

pub returns-then-allowed-clause-answer : goal.returns-then-allowed-clause-answer
returns-then-allowed-clause-answer c = (
  λ _. off_all (slice_range c.args.pool.now.cubes c.args.allowed.now.range.from c.args.allowed.now.range.to) (off_list c.args.allowed.now.off) c.args.cube c.args.vars
      c.requires.vars c.requires.off.below c.requires.cube (sym c.has_point_of.ensures ∙ c.if-has_point_of.false) (c.requires.off.complete c.if-allowed.true),
  λ all. refl,
)
