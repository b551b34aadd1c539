-- What is known of accepted names and of accepted sections, put together.
use Rattle.compile_phases.proofs.laws.sections_are_accepted.Goals as goal

pub returns : goal.returns
returns c = λ t m n device names unrefused.
    let accepted = c.names_are_accepted.ensures t m n names.entries names.sound names.apart names.buffers in
    c.sound_modules_are_accepted.ensures t m
    (record { pins = accepted.pins; nodes = accepted.nodes; buffers = accepted.buffers })
    unrefused
