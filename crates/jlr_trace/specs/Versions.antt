-- Which histories version 1 can tell as well as version 2.
use Rattle.std.specs.Prelude.{Bool, true, false, ◌&&◌, nat_lt}
use Rattle.std.specs.List.{list_all}
use Rattle.jlr_machine.specs.declared.object.Object.{Object}
use Rattle.jlr_machine.specs.declared.object.Object.TheVariants.{Plain}
use Rattle.jlr_machine.specs.declared.ask.Ask.{Ask}
use Rattle.jlr_machine.specs.declared.ask.Ask.TheVariants.{Put, Get, SetInt, Int, Array}
use Rattle.jlr_machine.specs.Objects.{is_typed}
use Rattle.jlr_trace_fields.specs.declared.version.Version.{Version}
use Rattle.jlr_trace.specs.Files.{FileText}

-- no array
abbrev pub object_fits_version_1 : Object → Bool
object_fits_version_1 (Plain contents) = is_typed contents
object_fits_version_1 object = true

-- none makes an array, and no field's number is above 255
abbrev pub ask_fits_version_1 : Ask → Bool
ask_fits_version_1 (Put mutator object field value) = nat_lt field 256
ask_fits_version_1 (Get mutator object field) = nat_lt field 256
ask_fits_version_1 (SetInt mutator object field value) = nat_lt field 256
ask_fits_version_1 (Int mutator object field) = nat_lt field 256
ask_fits_version_1 (Array mutator length) = false
ask_fits_version_1 ask = true

abbrev pub fits_version_1 : FileText → Bool
fits_version_1 t = list_all (λ p. object_fits_version_1 p.object) t.image.objects
    && list_all (λ e. ask_fits_version_1 e.ask) t.entries

-- the same history in this version
abbrev pub in_version : Version → FileText → FileText
in_version version t = record t { version = version }
