use Rattle.js_reading.proofs.goals.Apart.{text_apart}
use Rattle.js_reading.proofs.finding.Finds.{found_begins, ahead_begins, further_begins}
use Rattle.js_reading.proofs.heights.Floors.{low}
use Rattle.js_reading.proofs.finding.Found.{clean, clean_more, clean_text}
use Rattle.js_reading.proofs.goals.Goals.{asks}
use Rattle.js_reading.proofs.finding.LeftOut.{leaves_out, leaves_out_ahead, leaves_out_further, supports_ended, supports_refused, one_place}
use Rattle.js_reading.proofs.heights.Opening.{begins_more}
use Rattle.js_reading.proofs.sentences.Reading.{complete}
use Rattle.js_reading.proofs.refusing.Refusing.{this_begins, stops_run, begins_dead}
use Rattle.js_reading.proofs.sentences.Sound.{reads_only}
use Rattle.js_reading.proofs.placed.PlacedTexts.{reads_placed}
use Rattle.js_reading.proofs.finding.Taken.{read_finds}
use Rattle.js_reading.proofs.goals.Texts.{text_tree}
use Rattle.js_reading.proofs.sentences.Unique.{one_tree, dead}
use Rattle.js_reading.proofs.language.Goals as goal

pub returns-clause-reads : goal.returns-clause-reads
returns-clause-reads c = λ tree ts d. complete d

pub returns-clause-nothing_else : goal.returns-clause-nothing_else
returns-clause-nothing_else c = reads_only

pub returns-clause-one : goal.returns-clause-one
returns-clause-one c = λ one other ts d r. one_tree d r

pub returns-clause-stops : goal.returns-clause-stops
returns-clause-stops c = dead

pub returns-clause-counts : goal.returns-clause-counts
returns-clause-counts c = low

pub returns-clause-begins : goal.returns-clause-begins
returns-clause-begins c = begins_more

pub returns-clause-asks : goal.returns-clause-asks
returns-clause-asks c = asks

pub returns-clause-left_out : goal.returns-clause-left_out
returns-clause-left_out c = begins_dead

pub returns-clause-told : goal.returns-clause-told
returns-clause-told c = stops_run

pub returns-clause-finds_this : goal.returns-clause-finds_this
returns-clause-finds_this c = this_begins

pub returns-clause-stands_apart : goal.returns-clause-stands_apart
returns-clause-stands_apart c = text_apart

pub returns-clause-finds_few : goal.returns-clause-finds_few
returns-clause-finds_few c = λ ts turns d e t s h. read_finds t s h

pub returns-clause-finds_all : goal.returns-clause-finds_all
returns-clause-finds_all c = λ ts turns d s. clean s

pub returns-clause-finds_ended : goal.returns-clause-finds_ended
returns-clause-finds_ended c = λ ts turns d t s h. clean_more t s h

pub returns-clause-finds_refused : goal.returns-clause-finds_refused
returns-clause-finds_refused c = λ ts turns d r us s refused h k j. clean_text r us s refused h k j

pub returns-clause-finds_begun : goal.returns-clause-finds_begun
returns-clause-finds_begun c = λ ts turns d t us x s apart h. found_begins t us x s apart h

pub returns-clause-finds_ahead : goal.returns-clause-finds_ahead
returns-clause-finds_ahead c = λ ts turns d r us x s none h. ahead_begins r us x s none h

pub returns-clause-finds_further : goal.returns-clause-finds_further
returns-clause-finds_further c = λ ts turns d r us x s apart refused none h. further_begins r us x s apart refused none h

pub returns-clause-leaves_out : goal.returns-clause-leaves_out
returns-clause-leaves_out c = leaves_out

pub returns-clause-leaves_out_ahead : goal.returns-clause-leaves_out_ahead
returns-clause-leaves_out_ahead c = leaves_out_ahead

pub returns-clause-leaves_out_further : goal.returns-clause-leaves_out_further
returns-clause-leaves_out_further c = leaves_out_further

pub returns-clause-supports_ended : goal.returns-clause-supports_ended
returns-clause-supports_ended c = supports_ended

pub returns-clause-supports_refused : goal.returns-clause-supports_refused
returns-clause-supports_refused c = supports_refused

pub returns-clause-places_apart : goal.returns-clause-places_apart
returns-clause-places_apart c = one_place

pub returns-clause-text : goal.returns-clause-text
returns-clause-text c = text_tree

pub returns-clause-lines : goal.returns-clause-lines
returns-clause-lines c = reads_placed
