mod Carried
mod OpenEnds
mod Inside
mod Moments
mod InBoxes
mod Timing
mod Missing
mod Judged
