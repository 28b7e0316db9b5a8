-- What a world in memory tells.
use Rattle.std.specs.Prelude.{ℕ, Option, List}
use Rattle.f2b_world.specs.declared.event.Event.{Event}
use Rattle.f2b_world.specs.declared.faults.Faults.{Faults}
use Rattle.f2b_world.specs.Faults.{Fault, OfSink, OfDisk, OfPatterns, OfConfiguration, OfLogs, OfChildren, OfGate, OfLink, OfFiles}
use Rattle.f2b_world.specs.Told.{History}
use Rattle.f2b_mem.specs.Stages.{told_in}
use Rattle.f2b_mem.specs.declared.script.Script.{Script}
use Rattle.f2b_mem.specs.declared.world.MemWorld.{MemWorld}

-- the count of each kind of fault
abbrev pub counts : Faults → Fault → ℕ
counts f OfSink = f.sink
counts f OfDisk = f.disk
counts f OfPatterns = f.patterns
counts f OfConfiguration = f.configuration
counts f OfLogs = f.logs
counts f OfChildren = f.children
counts f OfGate = f.gate
counts f OfLink = 0
counts f OfFiles = 0

abbrev pub faults_of : MemWorld → Fault → ℕ
faults_of world = counts world.faults

-- the script that a world plays
abbrev pub script_of : MemWorld → Script
script_of world = world.stage.script

-- the events so far, as long as the world tells them
abbrev pub events_of : MemWorld → Option (List Event)
events_of world = world.stage.told

-- the history, from the image on
abbrev pub history_of_world : MemWorld → Option History
history_of_world world = told_in world.stage
