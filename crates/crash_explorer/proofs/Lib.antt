mod Fronts
mod GoneOn
mod Judged
mod Stopped
mod FirstFailures
