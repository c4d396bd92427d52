-- `session::Session::receive` meets its contract.
use Rattle.std.proofs.Common.{length, sym, ◌∙◌}
use Rattle.store.proofs.SearchLaws.{edition_says}
use Rattle.session.proofs.Session.receive.Goals as goal

pub receive_in-requires : goal.receive_in-requires
receive_in-requires c = edition_says (length c.args.store.now) c.in-Some.lim (sym c.edition_of.ensures ∙ c.in-Some.is)
