-- Commands that ask once.
use Rattle.std.proofs.Common.{◌≡◌, ℕ, List, refl}
use Rattle.jlr_device.specs.declared.device.Mode.{Mode}
use Rattle.jlr_machine.specs.declared.ask.Answer.{Answer}
use Rattle.jlr_wire.specs.declared.command.Command.{Command}
use Rattle.jlr_wire.specs.declared.command.Command.TheVariants.{Clean, Open, Connect, Read, Write, Close}
use Rattle.jlr_device.specs.Handling.{Handling}
use Rattle.jlr_session.specs.Calls.{Opening}
use Rattle.jlr_session.specs.Asks.{Asking, AsksOnce, CarriesOut, ask_by}

-- a command that is none of those that may ask twice
pub carried_once : {P D R : Type 0} (port : Asking P R) (device : Opening D R) (resource : Handling R) (m : ℕ) (command : Command)
    (p p' : P) (d : D) (said : Answer)
    → ((mode : Mode) (path : List ℕ) → command ≡ Open mode path → ⊥) → ((path : List ℕ) → command ≡ Connect path → ⊥)
    → ((h count : ℕ) → command ≡ Read h count → ⊥)
    → ((h : ℕ) (bytes : List ℕ) → command ≡ Write h bytes → ⊥) → ((h : ℕ) → command ≡ Clean h → ⊥) → ((h : ℕ) → command ≡ Close h → ⊥)
    → AsksOnce port (ask_by m command) p said p' → CarriesOut port device resource m command p d said p' d
carried_once port device resource m (Open mode path) p p' d said no_open no_connect no_read no_write no_clean no_close asks =
    absurd (no_open mode path refl)
carried_once port device resource m (Connect path) p p' d said no_open no_connect no_read no_write no_clean no_close asks =
    absurd (no_connect path refl)
carried_once port device resource m (Read h count) p p' d said no_open no_connect no_read no_write no_clean no_close asks =
    absurd (no_read h count refl)
carried_once port device resource m (Write h bytes) p p' d said no_open no_connect no_read no_write no_clean no_close asks =
    absurd (no_write h bytes refl)
carried_once port device resource m (Clean h) p p' d said no_open no_connect no_read no_write no_clean no_close asks =
    absurd (no_clean h refl)
carried_once port device resource m (Close h) p p' d said no_open no_connect no_read no_write no_clean no_close asks =
    absurd (no_close h refl)
carried_once port device resource m command p p' d said no_open no_connect no_read no_write no_clean no_close asks = (asks, refl)
