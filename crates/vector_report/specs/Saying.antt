-- What two files say, as the code keeps them (private).
use Rattle.std.specs.Prelude.{◌≡◌, List}
use Rattle.jedec_reader.specs.declared.fuse_file.FuseFile.{FuseFile}
use Rattle.pld_base.specs.declared.point.Vector.{Vector}

-- the one says what the other says, with these vectors in place of its own
pub record SaysWith (out file : FuseFile) (vectors : List Vector) : Type 0 where
  pub fuses : out.fuses ≡ file.fuses
  pub listed : out.listed ≡ file.listed
  pub level : out.default_level ≡ file.default_level
  pub list : out.vectors ≡ vectors
