mod Hearing
mod Playing
mod Serving
