-- Links with leaves that may be there (this project's rule).
use Rattle.std.specs.Prelude.{IfSome}
use Rattle.netlist_rows.specs.Prelude.{IsLeaf}
use Rattle.gathering.specs.declared.link.Link.{Link}

-- its leaf, if it has one, has a number that leaves may have
abbrev pub HasLeaf : Link → Type 0
HasLeaf r = IfSome r.leaf IsLeaf
