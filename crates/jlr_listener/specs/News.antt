-- What a watcher tells.
use Rattle.std.specs.Prelude.{◌≡◌, Bool, true}
use Rattle.jlr_listener.specs.declared.watch.News.{News}
use Rattle.jlr_listener.specs.declared.watch.News.TheVariants.{Asked}

-- where the news are that the server is asked to end, that is so
abbrev pub TellsAsked : News → Bool → Type 0
TellsAsked (Asked closing) asked = asked ≡ true
TellsAsked news asked = Unit {0}
