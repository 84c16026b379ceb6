-- What the functions of a conversion say to each other, by layouts. Nobody has to believe it.
use Rattle.std.specs.Prelude.{◌≡◌, false, cond, List, ℕ, ◌+◌, ◌-◌, ◌*◌, ◌≤◌, eqb, length, replicate}
use Rattle.rim_file.specs.declared.Layout.{Layout}
use Rattle.rim_file.specs.File.{marker_size, header_size, record_size1, record_size2, layout1, layout2, record_count, length_wrong}
use Rattle.conversion.specs.Converted.{laid_out, marker_byte}
use Rattle.conversion.specs.declared.Target.{Target}
use Rattle.rim_file.specs.declared.edition.Edition.{Edition}
use Rattle.rim_file.specs.declared.edition.Edition.TheVariants.{One, Two}

-- the other edition
abbrev pub other : Edition → Edition
other One = Two
other Two = One

-- the edition that is not this layout's, with its layout
abbrev pub target_of : Layout → Target
target_of l = cond (eqb l.record_size record_size1) (record { edition = Two; layout = layout2 }) (record { edition = One; layout = layout1 })

-- what stands after the 16 bytes of a record of this layout
abbrev pub ending_in : Layout → List ℕ
ending_in l = replicate (l.record_size - record_size1) 0

-- the file in this layout
abbrev pub in_layout : Layout → List ℕ → List ℕ
in_layout l s = laid_out (replicate l.header marker_byte) (ending_in l) s

-- a file of right length, and a table with room for it in another layout
pub record Room (file : List ℕ) (target : Layout) (out : List ℕ) : Type 0 where
  pub right : length_wrong file ≡ false
  pub header : target.header ≤ marker_size
  pub least : record_size1 ≤ target.record_size
  pub most : target.record_size ≤ record_size2
  pub long : target.header + header_size + target.record_size * record_count file ≤ length out
