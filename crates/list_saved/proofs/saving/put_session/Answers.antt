-- `list_saved::saving::put_session` meets its contract: the list's lines go behind the others.
use Rattle.list_saved.specs.Pieces.{session_text}
use Rattle.list_saved.proofs.saving.put_session.Goals as goal

pub put_front-requires-clause-room : goal.put_front-requires-clause-room
unfolding session_text
put_front-requires-clause-room g c = g.met.S.Sink.laws.room_first _ _ c.requires.room

pub put_list-requires-clause-room : goal.put_list-requires-clause-room
unfolding session_text
put_list-requires-clause-room g c = g.met.S.Sink.laws.room_next _ _ c.requires.room c.put_front.ensures

pub returns : goal.returns
unfolding session_text
returns g c = g.met.S.Sink.laws.puts_more c.put_front.ensures c.put_list.ensures
