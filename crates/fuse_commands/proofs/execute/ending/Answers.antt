-- The task decides.
use Rattle.fuse_commands.proofs.execute.ending.Goals as goal

pub returns-in-Compare : goal.returns-in-Compare
returns-in-Compare c = rw c.in-Compare.is c.compare_ending.ensures

pub returns-in-Read : goal.returns-in-Read
returns-in-Read c = rw c.in-Read.is c.read_ending.ensures

pub returns-in-Write : goal.returns-in-Write
returns-in-Write c = rw c.in-Write.is c.write_ending.ensures

pub returns-in-Port : goal.returns-in-Port
returns-in-Port c = rw c.in-Port.is c.port_ending.ensures
