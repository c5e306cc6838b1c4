use Rattle.std.proofs.Common.{◌≡◌, drop}
use Rattle.oat_world.specs.MemoryFiles.{contents_of}
use Rattle.oat_world.proofs.memory_files.content.Given as goal

-- the files before the index don't have the name
abbrev pub invariant-loop-file : goal.invariant-loop-file
invariant-loop-file l = contents_of (drop l.file-index l.files) l.name ≡ contents_of l.files l.name
