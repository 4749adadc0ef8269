use Rattle.ack_window.proofs.Contents.{content_of-later, numbers_sent-contents, open_numbers-contents, decided_by-contents, newest-counted, content_of-newest}
use Rattle.ack_window.proofs.laws.each_number_keeps_its_content.Goals as goal

pub returns : goal.returns
returns g c = record {
  contents = record { later = content_of-later; sent = numbers_sent-contents; waiting = open_numbers-contents; decided = decided_by-contents };
  newest = record { counted = newest-counted; content = content_of-newest };
}
