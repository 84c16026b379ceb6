-- The tables of the programs that close rims. Definitions only.
use Rattle.std.specs.Prelude.{replicate}
use Rattle.terms.specs.Entries.{triple}
use Rattle.pipeline.specs.Patching.{Tables, tables}

-- the places of a program's tables, with 0 in each (rule 5.3): 62 triangles, 1,024 candidates with their weights and work, 4,096 rows
abbrev pub empty_tables : Tables
empty_tables = tables (replicate 62 0) (replicate 1024 (triple 0 0 0)) (replicate 1024 0) (replicate 4096 (triple 0 0 0)) (replicate 1024 0)
