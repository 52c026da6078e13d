-- A part of a trigger that is looked at.
use Rattle.wb_base.specs.declared.form.Part.{Part}
use Rattle.wb_base.specs.declared.form.PartOf.{PartOf}

-- the part that it is
abbrev pub part_at : PartOf → Part
part_at p = record { field = p.field.now; option = p.option.now; points = p.points }
