use Rattle.source_map.proofs.search.trace.Given as goal

abbrev pub ghosts-trace_from : goal.ghosts-trace_from
ghosts-trace_from a = record { name = a.blank.name; parts = a.blank.parts }
