-- Each mapping leads to a page that is there.
use Rattle.std.proofs.Common.{false, rules}
use Rattle.std.proofs.lemmas.Option.{slice_get-get_or}
use Rattle.env_frames.specs.declared.mapping.Mapping.{Mapping}
use Rattle.board_model.proofs.Seen.{guaranteed_there}
use Rattle.aegis_calls.proofs.readers.BoardWorldView.kept_page.Goals as goal

abbrev pub no_mapping : Mapping
no_mapping = record { vpn = 0; page = 0; writable = false }

pub page_behind-requires : goal.page_behind-requires
page_behind-requires c = search (rules, slice_get-get_or, guaranteed_there)
