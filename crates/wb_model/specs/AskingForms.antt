-- The form in which a context asks, and the form in which a report was made.
use Rattle.std.specs.Prelude.{◌==◌, ◌&&◌, if◌then◌else◌, find, List, Option, Some, None}
use Rattle.wb_model.specs.declared.entry.Entry.{Entry}
use Rattle.wb_model.specs.declared.registry.FormItem.{FormItem}
use Rattle.wb_model.specs.declared.registry.ContextItem.{ContextItem}
use Rattle.wb_model.specs.Trails as trails
use Rattle.wb_model.specs.Tables.{newest_form}

-- the form in which a context asks: its form in the newest version
abbrev pub asking_form : Option ContextItem → List FormItem → Option FormItem
asking_form None forms = None
asking_form (Some c) forms = newest_form c.form forms

-- the form in which a context asks while it is open
abbrev pub open_form : Option ContextItem → List FormItem → Option FormItem
open_form None forms = None
open_form (Some c) forms = if c.is_open then newest_form c.form forms else None

-- the form in which a report was made
abbrev pub form_of_trail : List Entry → List FormItem → Option FormItem
form_of_trail trail forms = find (λ x. (x.id == trails.form trail) && (x.version == trails.version trail)) forms
