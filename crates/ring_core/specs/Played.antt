-- The window that a ring plays (this project's own profile).
use Rattle.ring_core.specs.declared.edge.PlayedWindow.{PlayedWindow}
use Rattle.ring_core.specs.Windows.{Window, window_of}

abbrev pub window_named : PlayedWindow → Window
window_named w = window_of w.list.now.value.items w.batches.now w.first_batch w.b w.workers
