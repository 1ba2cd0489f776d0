-- The records that stand at a line of a tree, as code knows them: the same records in the terms of `back_places`.
use Rattle.std.specs.Prelude.{◌≡◌, ℕ, List, map}
use Rattle.mid_code.specs.declared.program.MidProgram.{MidProgram}
use Rattle.mid_lines.specs.LineMeaning.{Standing}
use Rattle.mid_lines.specs.StaticRecords as lines
use Rattle.back_places.specs.Places.{StaticRecord, with_landing, only_lent}
use Rattle.back_places.specs.Relation.{statics}

-- a record of a line as code knows it, and back
abbrev pub known_record : lines.StaticRecord → StaticRecord
known_record (lines.of_landing words landing) = with_landing words landing
known_record lines.only_lent = only_lent

abbrev pub line_record : StaticRecord → lines.StaticRecord
line_record (with_landing words landing) = lines.of_landing words landing
line_record only_lent = lines.only_lent

abbrev pub known_records : List lines.StaticRecord → List StaticRecord
known_records records = map known_record records

-- the records at a line of a tree, as code knows them; none where the line is not there
abbrev pub tree_records : MidProgram → (number line : ℕ) → List StaticRecord
tree_records program number line = known_records (lines.records_at program number line)

-- Both types have the same records, and what the line tells of the records of an activation is what code knows of them.
pub record RecordsAreKept : Type 0 where
  pub there : (r : lines.StaticRecord) → line_record (known_record r) ≡ r
  pub back : (r : StaticRecord) → known_record (line_record r) ≡ r
  pub standing : (records : List Standing) → known_records (map lines.static_of records) ≡ statics records
